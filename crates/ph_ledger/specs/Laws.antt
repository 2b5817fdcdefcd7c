-- Laws of ledgers.
use Rattle.std.specs.Prelude.{◌≡◌, ℕ, Bool, List}
use Rattle.std.specs.List.{filter}
use Rattle.ph_money.specs.declared.currencies.Currency.{Currency}
use Rattle.ph_rows.specs.declared.rows.Row.{Row}
use Rattle.ph_rows.specs.Balances.{balance_of}
use Rattle.ph_ledger.specs.Steps.{Step, ledger_after, posted_rows, last_moment, is_txn}

-- after any steps the available and the pending balance of each account in each currency are the sums over the posted
-- rows, at the moment of the last advance
abbrev pub BalancesAreSums : Type 0
BalancesAreSums = (steps : List Step) (available : Bool) (account : ℕ) (currency : Currency)
    → balance_of available account currency (ledger_after steps).time (ledger_after steps).rows
    ≡ balance_of available account currency (last_moment steps) (posted_rows steps)

-- a balance over rows is the one over the transactions among them
abbrev pub OnlyTransactionsCount : Type 0
OnlyTransactionsCount = (rows : List Row) (available : Bool) (account : ℕ) (currency : Currency) (time : ℕ)
    → balance_of available account currency time (filter is_txn rows) ≡ balance_of available account currency time rows
