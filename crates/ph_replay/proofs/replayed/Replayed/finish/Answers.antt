use Rattle.std.proofs.Common.{◌≡◌, ◌∷◌, ◌++◌, [], refl, sym, ap, subst, ◌∙◌}
use Rattle.ph_base.specs.declared.acquirer.Why.TheVariants as why_given
use Rattle.ph_book.specs.declared.acts.Deed.TheVariants as deed
use Rattle.ph_book.specs.History.{past_of}
use Rattle.ph_book.specs.Legal.{IsAllowed}
use Rattle.ph_book.specs.Replies.{Replies}
use Rattle.ph_book.specs.State.{entered}
use Rattle.ph_replay.specs.State.{ReplayState}
use Rattle.ph_replay.specs.Told.{told_at}
use Rattle.ph_replay.proofs.LegalLemmas.{finish_never}
use Rattle.ph_replay.proofs.ReplayLemmas.{finish_entered, is_taken, kept_in, none_left, none_taken, run_finished, run_parked}
use Rattle.ph_replay.proofs.replayed.Replayed.finish.Goals as goal

pub ruled-requires : goal.ruled-requires
ruled-requires c =
    let taken = is_taken _ _ _ _ c.args.caller c.args.run c.in-Some.ticket c.live_runs.ensures.found c.self.invariant.kept (sym c.take_ticket.ensures.found ∙ c.in-Some.is) c.take_ticket.ensures.left in
    record { caller = taken.small; own = taken.holds }

pub invariant_of-self-in-Ok : goal.invariant_of-self-in-Ok
invariant_of-self-in-Ok c =
    let taken = is_taken _ _ _ _ c.args.caller c.args.run c.in-Some.ticket c.live_runs.ensures.found c.self.invariant.kept (sym c.take_ticket.ensures.found ∙ c.in-Some.is) c.take_ticket.ensures.left in
    let told = c.tell.ensures ∙ ap (λ n. told_at n (Replies c.in-Ok.reply)) c.next_place-place.ensures in
    kept_in _ _ _ _ _ _ (c.push_reserved.ensures.items ∙ ap (λ replies. replies ++ c.tell.result ∷ []) c.reserve.ensures.items) refl
    (run_finished c.self.inside.book c.ruled.new.book c.args.caller c.args.run c.args.ruling c.self.inside.replies.items c.self.inside.tickets.items _ c.in-Some.ticket c.in-Ok.reply c.tell.result
    c.live_runs.ensures.follow c.self.invariant taken c.in-Ok.ensures.entered c.in-Ok.ensures.said told)

pub invariant_of-self-in-Err : goal.invariant_of-self-in-Err
invariant_of-self-in-Err c =
    let taken = is_taken _ _ _ _ c.args.caller c.args.run c.in-Some.ticket c.live_runs.ensures.found c.self.invariant.kept (sym c.take_ticket.ensures.found ∙ c.in-Some.is) c.take_ticket.ensures.left in
    let told = c.tell-in-Err.ensures ∙ ap (λ n. told_at n (Replies c.in-Err.reply)) c.next_place-place.ensures in
    kept_in _ _ _ _ _ _ (c.push_reserved-in-Err.ensures.items ∙ ap (λ replies. replies ++ c.tell-in-Err.result ∷ []) c.reserve.ensures.items) refl
    (run_parked c.self.inside.book c.ruled.new.book c.args.caller c.args.run why_given.NoMemory c.self.inside.replies.items c.self.inside.tickets.items _ c.in-Some.ticket c.in-Err.reply c.tell-in-Err.result
    c.live_runs.ensures.follow c.self.invariant taken c.in-Err.ensures.given_up c.in-Err.ensures.given_up_said told)

pub returns-in-Ok-clause-entered : goal.returns-in-Ok-clause-entered
returns-in-Ok-clause-entered c =
    let taken = is_taken _ _ _ _ c.args.caller c.args.run c.in-Some.ticket c.live_runs.ensures.found c.self.invariant.kept (sym c.take_ticket.ensures.found ∙ c.in-Some.is) c.take_ticket.ensures.left in
    subst (λ (s : ReplayState). c.ruled.new.book ≡ entered s.book (record { caller = c.args.caller; deed = deed.Finish c.args.run c.args.ruling })) c.self.view_is
    (finish_entered c.self.inside.book c.ruled.new.book c.args.caller c.args.run c.args.ruling c.in-Some.ticket taken.own taken.number c.in-Ok.ensures.entered)

pub invariant_of-self-in_default : goal.invariant_of-self-in_default
invariant_of-self-in_default c =
    kept_in _ _ _ _ _ _ c.reserve.ensures.items
    (c.take_ticket.ensures.left ∙ none_left c.args.caller c.args.run c.self.inside.tickets.items (sym c.take_ticket.ensures.found ∙ c.in_default.is)) c.self.invariant

pub returns-in_default-clause-unentered : goal.returns-in_default-clause-unentered
returns-in_default-clause-unentered c =
    let none = none_taken _ _ _ c.args.caller c.args.run c.live_runs.ensures.found c.self.invariant.kept (sym c.take_ticket.ensures.found ∙ c.in_default.is) in
    subst (λ (s : ReplayState). IsAllowed s.book.setup (past_of s.book.setup s.book.history) (record { caller = c.args.caller; deed = deed.Finish c.args.run c.args.ruling }) → ⊥) c.self.view_is
    (finish_never c.self.inside.book.setup c.self.inside.book.history c.args.caller c.args.run c.args.ruling none)
