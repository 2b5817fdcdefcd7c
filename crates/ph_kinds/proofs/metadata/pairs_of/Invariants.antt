use Rattle.std.proofs.Common.{◌≡◌, map}
use Rattle.ph_kinds.specs.Metadata.{pair_of}
use Rattle.ph_kinds.proofs.metadata.pairs_of.Given as goal

abbrev pub invariant-loop-entry : goal.invariant-loop-entry
invariant-loop-entry l = l.pairs.items ≡ map pair_of l.yielded
