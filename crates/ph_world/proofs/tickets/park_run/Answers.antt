use Rattle.std.proofs.Common.{Option, sym, ap, ◌∙◌}
use Rattle.ph_attempts.specs.declared.flights.Flight.{Flight}
use Rattle.ph_world.specs.Flights.{and_entry, park_of, reply_to}
use Rattle.ph_world.proofs.FlightLemmas.{in_hand, not_placed_in, placed_in}
use Rattle.ph_world.proofs.tickets.park_run.Goals as goal

pub returns-in-None-clause-book : goal.returns-in-None-clause-book
returns-in-None-clause-book c =
    let none = not_placed_in c.args.tickets.now.items c.as_slice.result.now c.args.run c.as_slice.ensures.value c.in-None.ensures in
    sym (ap (λ (found : Option Flight). and_entry c.args.book.now (park_of c.args.why found)) none.found)

pub returns-in-None-clause-tickets : goal.returns-in-None-clause-tickets
returns-in-None-clause-tickets c =
    sym (not_placed_in c.args.tickets.now.items c.as_slice.result.now c.args.run c.as_slice.ensures.value c.in-None.ensures).left

pub returns-in-None-clause-reply : goal.returns-in-None-clause-reply
returns-in-None-clause-reply c =
    let none = not_placed_in c.args.tickets.now.items c.as_slice.result.now c.args.run c.as_slice.ensures.value c.in-None.ensures in
    sym (ap (λ (found : Option Flight). reply_to c.args.book.now (park_of c.args.why found)) none.found)

pub park-requires : goal.park-requires
park-requires c =
    let first = placed_in c.args.tickets.now.items c.as_slice.result.now c.args.run c.in-Some.at c.remove-ticket.result c.as_slice.ensures.value
    c.in-Some.ensures c.remove-ticket.ensures.value in
    record { in_hand = in_hand c.args.book.now c.args.tickets.now.items c.args.run c.remove-ticket.result c.requires.in_hand first.found }

pub returns-in-Some-clause-book : goal.returns-in-Some-clause-book
returns-in-Some-clause-book c =
    let first = placed_in c.args.tickets.now.items c.as_slice.result.now c.args.run c.in-Some.at c.remove-ticket.result c.as_slice.ensures.value
    c.in-Some.ensures c.remove-ticket.ensures.value in
    c.park.ensures.book ∙ sym (ap (λ (found : Option Flight). and_entry c.args.book.now (park_of c.args.why found)) first.found)

pub returns-in-Some-clause-tickets : goal.returns-in-Some-clause-tickets
returns-in-Some-clause-tickets c =
    let first = placed_in c.args.tickets.now.items c.as_slice.result.now c.args.run c.in-Some.at c.remove-ticket.result c.as_slice.ensures.value
    c.in-Some.ensures c.remove-ticket.ensures.value in
    c.remove-ticket.ensures.items ∙ sym first.left

pub returns-in-Some-clause-reply : goal.returns-in-Some-clause-reply
returns-in-Some-clause-reply c =
    let first = placed_in c.args.tickets.now.items c.as_slice.result.now c.args.run c.in-Some.at c.remove-ticket.result c.as_slice.ensures.value
    c.in-Some.ensures c.remove-ticket.ensures.value in
    sym (ap (λ (found : Option Flight). reply_to c.args.book.now (park_of c.args.why found)) first.found ∙ c.park.ensures.reply)
