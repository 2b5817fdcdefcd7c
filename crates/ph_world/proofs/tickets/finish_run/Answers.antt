use Rattle.std.proofs.Common.{Option, sym, ap, ◌∙◌}
use Rattle.ph_attempts.specs.declared.flights.Flight.{Flight}
use Rattle.ph_world.specs.Flights.{and_entry, finish_of, reply_to}
use Rattle.ph_world.proofs.FlightLemmas.{in_hand, not_placed_in, placed_in}
use Rattle.ph_world.proofs.tickets.finish_run.Goals as goal

pub returns-in-None-clause-book : goal.returns-in-None-clause-book
returns-in-None-clause-book c =
    let none = not_placed_in c.args.tickets.now.items c.as_slice.result.now c.args.run c.as_slice.ensures.value c.in-None.ensures in
    sym (ap (λ (found : Option Flight). and_entry c.args.book.now (finish_of c.args.ruling found)) none.found)

pub returns-in-None-clause-tickets : goal.returns-in-None-clause-tickets
returns-in-None-clause-tickets c =
    sym (not_placed_in c.args.tickets.now.items c.as_slice.result.now c.args.run c.as_slice.ensures.value c.in-None.ensures).left

pub returns-in-None-clause-reply : goal.returns-in-None-clause-reply
returns-in-None-clause-reply c =
    let none = not_placed_in c.args.tickets.now.items c.as_slice.result.now c.args.run c.as_slice.ensures.value c.in-None.ensures in
    sym (ap (λ (found : Option Flight). reply_to c.args.book.now (finish_of c.args.ruling found)) none.found)

pub finish-requires : goal.finish-requires
finish-requires c =
    let first = placed_in c.args.tickets.now.items c.as_slice.result.now c.args.run c.in-Some.at c.remove-ticket.result c.as_slice.ensures.value
    c.in-Some.ensures c.remove-ticket.ensures.value in
    record { in_hand = in_hand c.args.book.now c.args.tickets.now.items c.args.run c.remove-ticket.result c.requires.in_hand first.found }

pub returns-in-Ok-clause-book : goal.returns-in-Ok-clause-book
returns-in-Ok-clause-book c =
    let first = placed_in c.args.tickets.now.items c.as_slice.result.now c.args.run c.in-Some.at c.remove-ticket.result c.as_slice.ensures.value
    c.in-Some.ensures c.remove-ticket.ensures.value in
    c.in-Ok.ensures.book ∙ sym (ap (λ (found : Option Flight). and_entry c.args.book.now (finish_of c.args.ruling found)) first.found)

pub returns-in-Ok-clause-tickets : goal.returns-in-Ok-clause-tickets
returns-in-Ok-clause-tickets c =
    let first = placed_in c.args.tickets.now.items c.as_slice.result.now c.args.run c.in-Some.at c.remove-ticket.result c.as_slice.ensures.value
    c.in-Some.ensures c.remove-ticket.ensures.value in
    c.remove-ticket.ensures.items ∙ sym first.left

pub returns-in-Ok-clause-reply : goal.returns-in-Ok-clause-reply
returns-in-Ok-clause-reply c =
    let first = placed_in c.args.tickets.now.items c.as_slice.result.now c.args.run c.in-Some.at c.remove-ticket.result c.as_slice.ensures.value
    c.in-Some.ensures c.remove-ticket.ensures.value in
    sym (ap (λ (found : Option Flight). reply_to c.args.book.now (finish_of c.args.ruling found)) first.found ∙ c.in-Ok.ensures.reply)
