use Rattle.std.proofs.Common.{ap, ◌∙◌, ◌+◌, refl}
use Rattle.ph_book.specs.declared.acts.Deed.TheVariants as deed
use Rattle.ph_book.proofs.HistoryLemmas.{full_is, has_room, no_room}
use Rattle.ph_book.proofs.AskLemmas.{book_replies, book_serves, call_made}
use Rattle.ph_book.proofs.ReplyLemmas.{call_answered}
use Rattle.ph_book.proofs.StepLemmas.{known}
use Rattle.ph_book.proofs.book.Book.call.Goals as goal

pub returns-then-is_full-clause-full : goal.returns-then-is_full-clause-full
returns-then-is_full-clause-full c =
    let used = ap (λ n. n + c.self.inside.live) (c.len.ensures ∙ c.self.inside.entries.ok.0) in
    let test = full_is _ _ _ _ _ _ _ _ _ _ (deed.Call c.args.raw) _ c.self.view_is c.self.invariant.0 used c.is_full.ensures in
    no_room _ _ test c.if-is_full.true

pub called_by-requires : goal.called_by-requires
called_by-requires c = record { replies = book_replies _ _ _ _ _ _ _ _ c.self.invariant.0 }

pub enter_called-requires-clause-room : goal.enter_called-requires-clause-room
enter_called-requires-clause-room c =
    let used = ap (λ n. n + c.self.inside.live) (c.len.ensures ∙ c.self.inside.entries.ok.0) in
    let test = full_is _ _ _ _ _ _ _ _ _ _ (deed.Call c.args.raw) _ c.self.view_is c.self.invariant.0 used c.is_full.ensures in
    test ∙ c.if-is_full.false

pub enter_called-requires-clause-called : goal.enter_called-requires-clause-called
enter_called-requires-clause-called c =
    let place = ap (λ n. n + 1) (c.len-2.ensures ∙ c.self.inside.entries.ok.0) in
    call_made _ _ _ _ _ _ _ _ _ _ c.args.caller c.args.raw _ c.self.view_is c.self.invariant.0 place
    (c.in-Ok.ensures c.self.inside.setup (known c.self.inside.setup c.self.inside.entries.items) c.args.caller refl (book_serves _ _ _ _ _ _ _ _ c.self.invariant.0))

pub returns-in-Ok-enter_called-clause-kind : goal.returns-in-Ok-enter_called-clause-kind
returns-in-Ok-enter_called-clause-kind c =
    (call_answered _ _ _ _ _ _ _ _ _ _ c.args.caller c.args.raw _ c.self.view_is c.self.invariant.0 c.in-Ok-enter_called.ensures.answer).1

pub returns-in-Ok-enter_called-clause-status : goal.returns-in-Ok-enter_called-clause-status
returns-in-Ok-enter_called-clause-status c =
    (call_answered _ _ _ _ _ _ _ _ _ _ c.args.caller c.args.raw _ c.self.view_is c.self.invariant.0 c.in-Ok-enter_called.ensures.answer).0

pub returns-in-Ok-enter_called-clause-room : goal.returns-in-Ok-enter_called-clause-room
returns-in-Ok-enter_called-clause-room c =
    let used = ap (λ n. n + c.self.inside.live) (c.len.ensures ∙ c.self.inside.entries.ok.0) in
    let test = full_is _ _ _ _ _ _ _ _ _ _ (deed.Call c.args.raw) _ c.self.view_is c.self.invariant.0 used c.is_full.ensures in
    test ∙ c.if-is_full.false

pub returns-in-Err-enter_called-clause-full : goal.returns-in-Err-enter_called-clause-full
returns-in-Err-enter_called-clause-full c =
    let used = ap (λ n. n + c.self.inside.live) (c.len.ensures ∙ c.self.inside.entries.ok.0) in
    let test = full_is _ _ _ _ _ _ _ _ _ _ (deed.Call c.args.raw) _ c.self.view_is c.self.invariant.0 used c.is_full.ensures in
    has_room _ (test ∙ c.if-is_full.false)

pub returns-in-Err-clause-full : goal.returns-in-Err-clause-full
returns-in-Err-clause-full c =
    let used = ap (λ n. n + c.self.inside.live) (c.len.ensures ∙ c.self.inside.entries.ok.0) in
    let test = full_is _ _ _ _ _ _ _ _ _ _ (deed.Call c.args.raw) _ c.self.view_is c.self.invariant.0 used c.is_full.ensures in
    has_room _ (test ∙ c.if-is_full.false)
