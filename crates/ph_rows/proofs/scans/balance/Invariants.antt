use Rattle.std.proofs.Common.{◌≡◌, ◌*◌, drop}
use Rattle.std.specs.Prelude.{pos, ◌+ℤ◌, ◌≤ℤ◌}
use Rattle.ph_rows.specs.Balances.{balance_of}
use Rattle.ph_rows.proofs.scans.balance.Given as goal

abbrev pub invariant-loop-row : goal.invariant-loop-row
invariant-loop-row l = record {
  rest : l.sum +ℤ balance_of l.available l.account l.currency l.time (drop l.row-index l.rows) ≡ balance_of l.available l.account l.currency l.time l.rows;
  low : pos 0 ≤ℤ (l.sum +ℤ pos (2147483648 * l.row-index));
  high : l.sum ≤ℤ pos (2147483648 * l.row-index);
}
