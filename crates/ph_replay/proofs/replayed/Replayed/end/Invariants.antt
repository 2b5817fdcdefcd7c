use Rattle.std.proofs.Common.{length}
use Rattle.ph_replay.specs.Tickets.{AreKept}
use Rattle.ph_replay.proofs.replayed.Replayed.end.Given as goal

abbrev pub invariant-runs : goal.invariant-runs
invariant-runs l = AreKept l.book.setup l.book.history l.tickets.items

abbrev pub decreases-runs : goal.decreases-runs
decreases-runs l = length l.tickets.items
