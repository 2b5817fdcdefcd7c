use Rattle.std.proofs.Common.{sym, ◌∙◌, subst}
use Rattle.ph_world.specs.Flights.{AllInHand, flight_in, park_of}
use Rattle.ph_world.specs.Worlds.{WorldState}
use Rattle.ph_world.proofs.CodeLemmas.{ended_reply, given_up_is}
use Rattle.ph_world.proofs.inner.Inner.give_up.Goals as goal

pub park_run-requires : goal.park_run-requires
park_run-requires c = record { in_hand = subst (λ (w : WorldState). AllInHand w.book w.flights) (sym c.self.view_is) c.requires.in_hand }

pub returns-clause-after : goal.returns-clause-after
returns-clause-after c =
    given_up_is c.args.self.now c.self.inside.book c.park_run.new.book c.self.inside.tickets.items c.park_run.new.tickets.items
    c.self.inside.decisions.items c.self.inside.asks.items c.args.run c.args.why c.self.view_is c.requires.in_hand
    c.park_run.ensures.book c.park_run.ensures.tickets

pub returns-clause-reply : goal.returns-clause-reply
returns-clause-reply c =
    c.park_run.ensures.reply
    ∙ ended_reply c.args.self.now c.self.inside.book c.park_run.new.book c.self.inside.tickets.items
    c.self.inside.decisions.items c.self.inside.asks.items (park_of c.args.why (flight_in c.self.inside.tickets.items c.args.run))
    c.self.view_is c.park_run.ensures.book
