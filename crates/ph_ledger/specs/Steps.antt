-- What is done to a ledger, and what it then holds.
use Rattle.std.specs.Prelude.{ℕ, Bool, List, [], ◌∷◌, ◌++◌, Option, None, Some, is_some}
use Rattle.std.specs.List.{fold, filter_map}
use Rattle.ph_rows.specs.declared.rows.Row.{Row}
use Rattle.ph_items.specs.Items.{txn_in}
use Rattle.ph_rows.specs.Views.{ListState, ViewState}

-- a transaction is posted, or the ledger goes on to a moment
pub data Step : Type 0 where
  Posts : Row → Step
  Advances : ℕ → Step

-- what a ledger shows: its moment, and the posted rows
abbrev pub shown : ListState → ViewState
shown ledger = record { time = ledger.time; rows = ledger.rows }

-- a ledger in which nothing is posted
abbrev pub no_ledger : ViewState
no_ledger = record { time = 0; rows = [] }

-- a ledger after a step
abbrev pub after : ViewState → Step → ViewState
after ledger (Posts row) = record ledger { rows = ledger.rows ++ row ∷ [] }
after ledger (Advances now) = record ledger { time = now }

-- a ledger after steps, one after another
abbrev pub ledger_after : List Step → ViewState
ledger_after steps = fold after no_ledger steps

-- the row that a step posts, if it does
abbrev pub posted_by : Step → Option Row
posted_by (Posts row) = Some row
posted_by (Advances now) = None

-- the rows that steps post, in their order
abbrev pub posted_rows : List Step → List Row
posted_rows steps = filter_map posted_by steps

-- the moment after a step
abbrev pub moment_after : ℕ → Step → ℕ
moment_after moment (Posts row) = moment
moment_after moment (Advances now) = now

-- the moment to which steps advance
abbrev pub last_moment : List Step → ℕ
last_moment steps = fold moment_after 0 steps

-- the row is one of a transaction
abbrev pub is_txn : Row → Bool
is_txn row = is_some (txn_in row.item)
