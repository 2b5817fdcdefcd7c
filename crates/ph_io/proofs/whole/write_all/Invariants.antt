use Rattle.std.proofs.Common.{◌≡◌, ◌≤◌, ◌-◌, length, take}
use Rattle.ph_io.specs.Writes.{Takes}
use Rattle.ph_io.proofs.whole.write_all.Given as goal

abbrev pub invariant-loop-at : goal.invariant-loop-at
invariant-loop-at g l = record {
  within : l.at ≤ length l.bytes;
  written : Takes (g.K.Sink.sink l.fn.sink) (g.K.Sink.sink l.sink) (take l.at l.bytes);
  beside : g.K.Sink.beside_sink l.sink ≡ g.K.Sink.beside_sink l.fn.sink;
}

abbrev pub decreases-loop-at : goal.decreases-loop-at
decreases-loop-at g l = length l.bytes - l.at
