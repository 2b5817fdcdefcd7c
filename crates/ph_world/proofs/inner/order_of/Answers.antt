use Rattle.std.proofs.Common.{Some, sym, ap, ◌∙◌}
use Rattle.std.specs.Prelude.{option_map}
use Rattle.ph_attempts.specs.declared.flights.Flight.{Flight}
use Rattle.ph_items.specs.declared.orders.Order.{Order}
use Rattle.ph_world.proofs.FlightLemmas.{not_placed, placed}
use Rattle.ph_world.proofs.inner.order_of.Goals as goal

pub returns-in-None : goal.returns-in-None
returns-in-None c =
    sym (ap (option_map (λ (flight : Flight). flight.order)) (not_placed c.args.tickets.now c.args.run (sym c.in-None.ensures)).found)

pub returns-in-Some : goal.returns-in-Some
returns-in-Some c =
    ap (λ (order : Order). Some order) c.order.ensures
    ∙ sym (ap (option_map (λ (flight : Flight). flight.order))
    (placed c.args.tickets.now c.args.run c.in-Some.at c.index-tickets-at.result (sym c.in-Some.ensures) c.index-tickets-at.is).found)
