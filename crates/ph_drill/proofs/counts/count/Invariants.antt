use Rattle.std.proofs.Common.{◌≡◌, ◌≤◌, take}
use Rattle.ph_drill.specs.Counts.{count_in}
use Rattle.ph_drill.proofs.counts.count.Given as goal

abbrev pub invariant-loop-at : goal.invariant-loop-at
invariant-loop-at g l = record {
  few : l.count ≤ l.at;
  counted : l.count ≡ count_in l.counted (take l.at (g.V.View.state l.view).rows);
}
