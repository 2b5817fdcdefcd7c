use Rattle.std.proofs.Common.{◌≡◌, ◌++◌, ◌≤◌, ◌-◌, length, take, drop}
use Rattle.ph_items.specs.Metadata.{with_pair}
use Rattle.ph_items.proofs.metadata_pairs.put.Given as goal

abbrev pub invariant-loop-place : goal.invariant-loop-place
invariant-loop-place l = record {
  within : l.place ≤ length l.pairs.items;
  further : with_pair l.new l.pairs.items ≡ take l.place l.pairs.items ++ with_pair l.new (drop l.place l.pairs.items);
  same : l.pairs.items ≡ l.initial.pairs.items;
}

abbrev pub decreases-loop-place : goal.decreases-loop-place
decreases-loop-place l = length l.pairs.items - l.place
