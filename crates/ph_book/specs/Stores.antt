-- The rows of a book, and its ledger.
use Rattle.std.specs.Prelude.{◌≡◌, min}
use Rattle.std.specs.List.{filter}
use Rattle.ph_rows.specs.Views.{ListState}
use Rattle.ph_ledger.specs.Steps.{is_txn}

-- the ledger has the time of these rows, and the transactions among them
pub record IsLedgerOf (view ledger : ListState) : Type 0 where
  pub time : ledger.time ≡ view.time
  pub rows : ledger.rows ≡ filter is_txn view.rows

-- what contracts see of rows and their ledger: there is room for a row where both have it
abbrev pub store_state : ListState → ListState → ListState
store_state view ledger = record view { room = min view.room ledger.room }
