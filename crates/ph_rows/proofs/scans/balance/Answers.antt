use Rattle.std.proofs.Common.{arith}
use Rattle.std.proofs.lemmas.Int.{ints}
use Rattle.ph_rows.proofs.BalanceLemmas.{balance_of-drop}
use Rattle.ph_rows.proofs.scans.balance.Goals as goal

pub loop-row-preserved : goal.loop-row-preserved
loop-row-preserved c = record {
  rest =
      let moves = balance_of-drop c.args.available c.args.account c.args.currency c.args.time c.args.rows.now in
      omega (arith, ints, moves c.loop-row.row-index c.row-item.result (omega arith) c.row-item.is);
  low = omega (arith, ints);
  high = omega (arith, ints);
}
