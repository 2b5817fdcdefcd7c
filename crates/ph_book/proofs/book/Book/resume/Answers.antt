use Rattle.std.proofs.Common.{sym, ap, ◌∙◌, ◌+◌, arith}
use Rattle.ph_book.specs.declared.acts.Deed.TheVariants as deed
use Rattle.ph_book.specs.History.{Effect, nothing}
use Rattle.ph_book.proofs.HistoryLemmas.{full_is, has_room, no_room}
use Rattle.ph_book.proofs.KeepLemmas.{weight_here}
use Rattle.ph_book.proofs.ResumeLemmas.{resume_none, resume_takes}
use Rattle.ph_book.proofs.StepLemmas.{time_now}
use Rattle.ph_book.proofs.book.Book.resume.Goals as goal

pub returns-then-has_no_two_places-clause-full : goal.returns-then-has_no_two_places-clause-full
returns-then-has_no_two_places-clause-full c =
    let used = ap (λ n. n + c.self.inside.live) (c.len.ensures ∙ c.self.inside.entries.ok.0) in
    let test = full_is _ _ _ _ _ _ _ _ _ _ deed.Resume _ c.self.view_is c.self.invariant.0 used c.has_no_two_places.ensures in
    no_room _ _ test c.if-has_no_two_places.true

pub take_up-requires-clause-room : goal.take_up-requires-clause-room
take_up-requires-clause-room c =
    let used = ap (λ n. n + c.self.inside.live) (c.len.ensures ∙ c.self.inside.entries.ok.0) in
    let test = full_is _ _ _ _ _ _ _ _ _ _ deed.Resume _ c.self.view_is c.self.invariant.0 used c.has_no_two_places.ensures in
    test ∙ c.if-has_no_two_places.false

pub take_up-requires-clause-taken : goal.take_up-requires-clause-taken
take_up-requires-clause-taken c =
    resume_takes _ _ _ _ _ _ _ _ _ c.args.caller c.in-Some.reference c.self.view_is c.self.invariant.0 (sym c.parked.ensures.first ∙ c.in-Some.is)

pub take_up-requires-clause-weight : goal.take_up-requires-clause-weight
take_up-requires-clause-weight c = let weight = weight_here _ _ _ _ _ _ _ _ _ c.self.view_is c.self.invariant.0 in omega (arith, weight)

pub returns-in-Ok-clause-room : goal.returns-in-Ok-clause-room
returns-in-Ok-clause-room c =
    let used = ap (λ n. n + c.self.inside.live) (c.len.ensures ∙ c.self.inside.entries.ok.0) in
    let test = full_is _ _ _ _ _ _ _ _ _ _ deed.Resume _ c.self.view_is c.self.invariant.0 used c.has_no_two_places.ensures in
    test ∙ c.if-has_no_two_places.false

pub returns-in-Err-clause-full : goal.returns-in-Err-clause-full
returns-in-Err-clause-full c =
    let used = ap (λ n. n + c.self.inside.live) (c.len.ensures ∙ c.self.inside.entries.ok.0) in
    let test = full_is _ _ _ _ _ _ _ _ _ _ deed.Resume _ c.self.view_is c.self.invariant.0 used c.has_no_two_places.ensures in
    has_room _ (test ∙ c.if-has_no_two_places.false)

pub pass-requires-clause-room : goal.pass-requires-clause-room
pass-requires-clause-room c =
    let used = ap (λ n. n + c.self.inside.live) (c.len.ensures ∙ c.self.inside.entries.ok.0) in
    let test = full_is _ _ _ _ _ _ _ _ _ _ deed.Resume _ c.self.view_is c.self.invariant.0 used c.has_no_two_places.ensures in
    test ∙ c.if-has_no_two_places.false

pub pass-requires-clause-none : goal.pass-requires-clause-none
pass-requires-clause-none c =
    resume_none _ _ _ _ _ _ _ _ _ c.args.caller c.self.view_is c.self.invariant.0 (sym c.parked.ensures.first ∙ c.in-None.is)
    ∙ ap nothing (sym (time_now _ _ _ _ _ _ _ _ _ c.self.view_is c.self.invariant.0))

pub returns-in-Ok-pass-clause-none : goal.returns-in-Ok-pass-clause-none
returns-in-Ok-pass-clause-none c =
    ap (λ (effect : Effect). effect.said) (resume_none _ _ _ _ _ _ _ _ _ c.args.caller c.self.view_is c.self.invariant.0 (sym c.parked.ensures.first ∙ c.in-None.is))

pub returns-in-Ok-pass-clause-room : goal.returns-in-Ok-pass-clause-room
returns-in-Ok-pass-clause-room c =
    let used = ap (λ n. n + c.self.inside.live) (c.len.ensures ∙ c.self.inside.entries.ok.0) in
    let test = full_is _ _ _ _ _ _ _ _ _ _ deed.Resume _ c.self.view_is c.self.invariant.0 used c.has_no_two_places.ensures in
    test ∙ c.if-has_no_two_places.false

pub returns-in-Err-pass-clause-full : goal.returns-in-Err-pass-clause-full
returns-in-Err-pass-clause-full c =
    let used = ap (λ n. n + c.self.inside.live) (c.len.ensures ∙ c.self.inside.entries.ok.0) in
    let test = full_is _ _ _ _ _ _ _ _ _ _ deed.Resume _ c.self.view_is c.self.invariant.0 used c.has_no_two_places.ensures in
    has_room _ (test ∙ c.if-has_no_two_places.false)
