use Rattle.std.proofs.Common.{◌≡◌, ◌+◌, ◌<◌, ◌^◌, drop}
use Rattle.ph_rows.specs.Weights.{rows_weight}
use Rattle.ph_rows.proofs.weights.weight_with_rows.Given as goal

abbrev pub invariant-loop-row : goal.invariant-loop-row
invariant-loop-row l = record {
  rest : l.sum + rows_weight (drop l.row-index l.rows) ≡ l.weight + rows_weight l.rows;
  fits : l.sum < 2 ^ 64;
}
