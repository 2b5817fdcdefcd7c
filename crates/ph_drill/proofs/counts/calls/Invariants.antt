use Rattle.std.proofs.Common.{◌≡◌, ◌≤◌, take}
use Rattle.ph_drill.specs.Counts.{calls_in}
use Rattle.ph_drill.proofs.counts.calls.Given as goal

abbrev pub invariant-loop-entry : goal.invariant-loop-entry
invariant-loop-entry l = record {
  few : l.count ≤ l.entry-index;
  counted : l.count ≡ calls_in (take l.entry-index l.history);
}
