use Rattle.std.proofs.Common.{◌≡◌, ◌++◌, drop}
use Rattle.ph_charges.specs.Told.{split_events}
use Rattle.ph_charges.proofs.told.split_events.Given as goal

abbrev pub invariant-loop-row : goal.invariant-loop-row
invariant-loop-row l = l.events.items ++ split_events (drop l.row-index l.rows) ≡ split_events l.rows
