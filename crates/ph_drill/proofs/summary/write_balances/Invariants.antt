use Rattle.std.proofs.Common.{take}
use Rattle.std.specs.List.{flat_map}
use Rattle.ph_io.specs.Writes.{Takes}
use Rattle.ph_drill.proofs.BalanceLemmas.{row_lines}
use Rattle.ph_drill.proofs.summary.write_balances.Given as goal

abbrev pub invariant-loop-at : goal.invariant-loop-at
invariant-loop-at g l =
    Takes (g.K.Sink.sink l.fn.sink) (g.K.Sink.sink l.sink) (flat_map (row_lines (g.V.View.state l.view)) (take l.at (g.V.View.state l.view).rows))
