use Rattle.std.proofs.Common.{◌≡◌, ◌++◌, drop}
use Rattle.ph_items.proofs.metadata_pairs.Metadata.copy.Given as goal

abbrev pub invariant-loop-pair : goal.invariant-loop-pair
invariant-loop-pair l = l.pairs.items ++ drop l.pair-index l.pair-items ≡ l.pair-items
