use Rattle.std.proofs.Common.{length, take, ◌-◌, ◌≤◌}
use Rattle.hex.specs.Hex.{encode_lower}
use Rattle.ph_io.specs.Writes.{Takes}
use Rattle.ph_lines.proofs.writing.write_hex.Given as goal

abbrev pub invariant-loop-at : goal.invariant-loop-at
invariant-loop-at g l = record {
  within : l.at ≤ length l.bytes;
  written : Takes (g.K.Sink.sink l.fn.sink) (g.K.Sink.sink l.sink) (encode_lower (take l.at l.bytes));
}

abbrev pub decreases-loop-at : goal.decreases-loop-at
decreases-loop-at g l = length l.bytes - l.at
