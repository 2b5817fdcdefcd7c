use Rattle.std.proofs.Common.{List, [], ◌∷◌, ◌++◌, sym, ap, ◌∙◌, subst}
use Rattle.std.specs.Prelude.{option_map}
use Rattle.ph_attempts.specs.declared.flights.Flight.{Flight}
use Rattle.ph_bank.specs.declared.memory.Decision.{Decision}
use Rattle.ph_bank.specs.Scripts.{ruling_of}
use Rattle.ph_world.specs.declared.ask.Ask.{Ask}
use Rattle.ph_world.specs.Flights.{AllInHand, finish_of, flight_in}
use Rattle.ph_world.specs.Moves.{replied}
use Rattle.ph_world.specs.Worlds.{WorldState}
use Rattle.ph_world.proofs.CodeLemmas.{ended_reply, pending_is, ruled_is}
use Rattle.ph_world.proofs.LawLemmas.{replied_same}
use Rattle.ph_world.proofs.inner.Inner.ask.Goals as goal

pub finish_run-requires : goal.finish_run-requires
finish_run-requires c = record { in_hand = subst (λ (w : WorldState). AllInHand w.book w.flights) (sym c.self.view_is) c.requires.in_hand }

pub returns-in-None-clause-after : goal.returns-in-None-clause-after
returns-in-None-clause-after c =
    pending_is c.args.self.now c.self.inside.book c.self.inside.tickets.items c.self.inside.decisions.items c.self.inside.asks.items c.self.view_is
    c.args.run c.args.order.now c.push_reserved.new.self.items
    (sym (c.requires.order ∙ ap (λ (w : WorldState). option_map (λ (flight : Flight). flight.order) (flight_in w.flights c.args.run)) (sym c.self.view_is)))
    (ap (λ (decisions : List Decision). ruling_of decisions c.args.order.now.reference) (sym c.as_slice.ensures.value) ∙ sym c.in-None.ensures)
    (c.push_reserved.ensures.items ∙ ap (λ (asks : List Ask). asks ++ record { run = c.args.run; order = c.args.order.now } ∷ []) c.reserve.ensures.items)

pub returns-in-None-clause-reply : goal.returns-in-None-clause-reply
returns-in-None-clause-reply c =
    sym (replied_same c.self.inside.book) ∙ ap (λ (w : WorldState). replied w.book c.self.inside.book) c.self.view_is

pub returns-in_ok-reply-in-Some-clause-after : goal.returns-in_ok-reply-in-Some-clause-after
returns-in_ok-reply-in-Some-clause-after c =
    ruled_is c.args.self.now c.self.inside.book c.self.inside.tickets.items c.self.inside.decisions.items c.self.inside.asks.items c.self.view_is
    c.args.run c.args.order.now c.in-Some.ruling c.finish_run.new.book c.finish_run.new.tickets.items c.push_reserved-in-Some.new.self.items c.requires.in_hand
    (sym (c.requires.order ∙ ap (λ (w : WorldState). option_map (λ (flight : Flight). flight.order) (flight_in w.flights c.args.run)) (sym c.self.view_is)))
    (ap (λ (decisions : List Decision). ruling_of decisions c.args.order.now.reference) (sym c.as_slice.ensures.value) ∙ sym c.in-Some.ensures)
    (c.push_reserved-in-Some.ensures.items ∙ ap (λ (asks : List Ask). asks ++ record { run = c.args.run; order = c.args.order.now } ∷ []) c.reserve.ensures.items)
    c.in_ok-reply-in-Some.ensures.book c.in_ok-reply-in-Some.ensures.tickets

pub returns-in_ok-reply-in-Some-clause-reply : goal.returns-in_ok-reply-in-Some-clause-reply
returns-in_ok-reply-in-Some-clause-reply c =
    c.in_ok-reply-in-Some.ensures.reply
    ∙ ended_reply c.args.self.now c.self.inside.book c.finish_run.new.book c.self.inside.tickets.items
    c.self.inside.decisions.items c.self.inside.asks.items (finish_of c.in-Some.ruling (flight_in c.self.inside.tickets.items c.args.run))
    c.self.view_is c.in_ok-reply-in-Some.ensures.book
