-- The summary of a run, which is a function of its history alone.
use Rattle.std.specs.Prelude.{ℕ, List, [], ◌++◌, codes, if◌then◌else◌}
use Rattle.std.specs.List.{filter, flat_map}
use Rattle.ph_base.specs.declared.ids.Kind.TheVariants as kind
use Rattle.ph_money.specs.declared.currencies.Currency.{Currency}
use Rattle.ph_money.specs.Currencies.{code_of, currencies}
use Rattle.ph_rows.specs.Balances.{available_of, pending_of}
use Rattle.ph_rows.specs.Views.{ViewState}
use Rattle.ph_views.specs.Balances.{has_txns}
use Rattle.ph_views.specs.Values.{printed_id}
use Rattle.ph_book.specs.declared.acts.Entry.{Entry}
use Rattle.ph_book.specs.declared.setup.Setup.{Setup}
use Rattle.ph_book.specs.History.{view_of}
use Rattle.ph_drill.specs.declared.counts.Counts.{Counts}
use Rattle.ph_drill.specs.Counts.{counts_of, is_object}
use Rattle.ph_drill.specs.Lines.{balance_line, count_line}

-- the line of an account's balance in a currency, where it has transactions in it
abbrev pub currency_lines : ViewState → ℕ → Currency → List ℕ
currency_lines view account currency =
    if has_txns account view.rows currency
    then balance_line (printed_id kind.Account account) (code_of currency) (available_of account currency view.time view.rows) (pending_of account currency view.time view.rows)
    else []

-- the lines of an account's balances, in the order of the currencies' codes
abbrev pub account_lines : ViewState → ℕ → List ℕ
account_lines view account = flat_map (currency_lines view account) currencies

-- the lines of all balances, of one account after another by their numbers
abbrev pub balance_lines : ViewState → List ℕ
balance_lines view = flat_map (λ row. account_lines view row.object) (filter (is_object kind.Account) view.rows)

-- the lines of the counts
abbrev pub count_lines : Counts → List ℕ
count_lines counts =
    count_line (codes "entries") counts.entries
    ++ count_line (codes "calls") counts.calls
    ++ count_line (codes "attempts") counts.attempts
    ++ count_line (codes "approved") counts.approved
    ++ count_line (codes "rows") counts.rows
    ++ count_line (codes "events") counts.events

-- the summary of a history: what there is in it, and the balances
unfoldable pub summary_of : Setup → List Entry → List ℕ
summary_of setup history = count_lines (counts_of setup history) ++ balance_lines (view_of setup history)
