use Rattle.std.proofs.Common.{◌≡◌, ◌∷◌, ◌++◌, [], refl, sym, ap, subst, ◌∙◌}
use Rattle.ph_book.specs.declared.acts.Deed.TheVariants as deed
use Rattle.ph_book.specs.History.{past_of}
use Rattle.ph_book.specs.Legal.{IsAllowed}
use Rattle.ph_book.specs.Replies.{Replies}
use Rattle.ph_book.specs.State.{entered}
use Rattle.ph_replay.specs.State.{ReplayState}
use Rattle.ph_replay.specs.Told.{told_at}
use Rattle.ph_replay.proofs.LegalLemmas.{park_never}
use Rattle.ph_replay.proofs.ReplayLemmas.{is_taken, kept_in, none_left, none_taken, park_entered, run_parked}
use Rattle.ph_replay.proofs.replayed.Replayed.park.Goals as goal

pub given_up-reply-requires : goal.given_up-reply-requires
given_up-reply-requires c =
    let taken = is_taken _ _ _ _ c.args.caller c.args.run c.in-Some.ticket c.live_runs.ensures.found c.self.invariant.kept (sym c.take_ticket.ensures.found ∙ c.in-Some.is) c.take_ticket.ensures.left in
    record { caller = taken.small; own = taken.holds }

pub invariant_of-self-2 : goal.invariant_of-self-2
invariant_of-self-2 c =
    let taken = is_taken _ _ _ _ c.args.caller c.args.run c.in-Some.ticket c.live_runs.ensures.found c.self.invariant.kept (sym c.take_ticket.ensures.found ∙ c.in-Some.is) c.take_ticket.ensures.left in
    let told = c.tell.ensures ∙ ap (λ n. told_at n (Replies c.given_up-reply.result)) c.next_place-place.ensures in
    kept_in _ _ _ _ _ _ (c.push_reserved.ensures.items ∙ ap (λ replies. replies ++ c.tell.result ∷ []) c.reserve.ensures.items) refl
    (run_parked c.self.inside.book c.given_up-reply.new.book c.args.caller c.args.run c.args.why c.self.inside.replies.items c.self.inside.tickets.items _ c.in-Some.ticket c.given_up-reply.result c.tell.result
    c.live_runs.ensures.follow c.self.invariant taken c.given_up-reply.ensures.entered c.given_up-reply.ensures.said told)

pub returns-clause-entered : goal.returns-clause-entered
returns-clause-entered c =
    let taken = is_taken _ _ _ _ c.args.caller c.args.run c.in-Some.ticket c.live_runs.ensures.found c.self.invariant.kept (sym c.take_ticket.ensures.found ∙ c.in-Some.is) c.take_ticket.ensures.left in
    subst (λ (s : ReplayState). c.given_up-reply.new.book ≡ entered s.book (record { caller = c.args.caller; deed = deed.Park c.args.run c.args.why })) c.self.view_is
    (park_entered c.self.inside.book c.given_up-reply.new.book c.args.caller c.args.run c.args.why c.in-Some.ticket taken.own taken.number c.given_up-reply.ensures.entered)

pub invariant_of-self-in_default : goal.invariant_of-self-in_default
invariant_of-self-in_default c =
    kept_in _ _ _ _ _ _ c.reserve.ensures.items
    (c.take_ticket.ensures.left ∙ none_left c.args.caller c.args.run c.self.inside.tickets.items (sym c.take_ticket.ensures.found ∙ c.in_default.is)) c.self.invariant

pub returns-in_default-clause-unentered : goal.returns-in_default-clause-unentered
returns-in_default-clause-unentered c =
    let none = none_taken _ _ _ c.args.caller c.args.run c.live_runs.ensures.found c.self.invariant.kept (sym c.take_ticket.ensures.found ∙ c.in_default.is) in
    subst (λ (s : ReplayState). IsAllowed s.book.setup (past_of s.book.setup s.book.history) (record { caller = c.args.caller; deed = deed.Park c.args.run c.args.why }) → ⊥) c.self.view_is
    (park_never c.self.inside.book.setup c.self.inside.book.history c.args.caller c.args.run c.args.why none)
