use Rattle.std.proofs.Common.{◌≡◌, ◌+◌, ◌≤◌, ◌++◌, drop}
use Rattle.std.specs.List.{filter}
use Rattle.ph_ledger.specs.Steps.{is_txn}
use Rattle.ph_ledger.proofs.ledgers.Ledger.post_all_reserved.Given as goal

abbrev pub invariant-loop-row : goal.invariant-loop-row
invariant-loop-row l = record {
  rows : l.self.rows ++ filter is_txn (drop l.row-index l.rows) ≡ l.fn.self.rows ++ filter is_txn l.fn.rows;
  time : l.self.time ≡ l.fn.self.time;
  room : l.fn.self.room ≤ l.self.room + l.row-index;
}
