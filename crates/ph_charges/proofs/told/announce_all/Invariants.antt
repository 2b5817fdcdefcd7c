use Rattle.std.proofs.Common.{◌≡◌}
use Rattle.ph_charges.specs.Told.{with_all_announced}
use Rattle.ph_charges.proofs.told.announce_all.Given as goal

abbrev pub invariant-loop-told : goal.invariant-loop-told
invariant-loop-told l = with_all_announced l.told-iterator.rest.items l.batch ≡ with_all_announced l.fn.events.items l.fn.batch
