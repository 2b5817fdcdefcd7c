use Rattle.std.proofs.Common.{◌≡◌, length}
use Rattle.ph_world.specs.Flights.{AllInHand, AreApart}
use Rattle.ph_world.specs.Playing.{ended}
use Rattle.ph_world.proofs.tickets.park_all.Given as goal

abbrev pub invariant-loop-book : goal.invariant-loop-book
invariant-loop-book l = record {
  in_hand : AllInHand l.book l.tickets.items;
  apart : AreApart l.tickets.items;
  book : ended l.book l.tickets.items ≡ ended l.fn.book l.fn.tickets.items;
}

abbrev pub decreases-loop-book : goal.decreases-loop-book
decreases-loop-book l = length l.tickets.items
