-- The balances of a ledger are those of all rows.
use Rattle.std.proofs.Common.{◌≡◌, ℕ, Bool, ℤ, List, ap, ◌∙◌}
use Rattle.ph_money.specs.declared.currencies.Currency.{Currency}
use Rattle.ph_rows.specs.declared.rows.Row.{Row}
use Rattle.ph_rows.specs.Balances.{balance_of}
use Rattle.ph_rows.specs.Views.{ListState}
use Rattle.ph_ledger.proofs.LedgerLemmas.{transactions_count}
use Rattle.ph_book.specs.Stores.{IsLedgerOf, store_state}

-- a balance of the ledger is that of the rows
pub ledger_balance : (available : Bool) (account : ℕ) (currency : Currency) (view ledger now : ListState) (balance : ℤ) → IsLedgerOf view ledger → store_state view ledger ≡ now
    → balance ≡ balance_of available account currency ledger.time ledger.rows → balance ≡ balance_of available account currency now.time now.rows
ledger_balance available account currency view ledger now balance is shows given =
    given
    ∙ ap (λ (p : ℕ × List Row). balance_of available account currency p.0 p.1) (λ i. (is.time i, is.rows i))
    ∙ transactions_count view.rows available account currency view.time
    ∙ ap (λ (state : ListState). balance_of available account currency state.time state.rows) shows
