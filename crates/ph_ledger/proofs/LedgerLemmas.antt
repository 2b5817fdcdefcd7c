-- A ledger after steps; balances over the transactions among rows.
use Rattle.std.proofs.Common.{◌≡◌, ℕ, Bool, true, false, cond, List, [], ◌∷◌, ◌++◌, Option, None, sym, refl, ap, ◌∙◌, subst, arith, ℤ, pos, ◌+ℤ◌}
use Rattle.std.specs.Prelude.{is_some, ◌==◌}
use Rattle.std.specs.List.{fold, filter, filter_map, cons_option}
use Rattle.std.proofs.lemmas.Int.{ints}
use Rattle.std.proofs.lemmas.List.{append-nil, append_assoc}
use Rattle.ph_money.specs.declared.currencies.Currency.{Currency}
use Rattle.ph_rows.specs.declared.rows.Row.{Row}
use Rattle.ph_items.specs.declared.items.Item.{Item}
use Rattle.ph_items.specs.declared.items.Item.TheVariants as item
use Rattle.ph_items.specs.declared.movements.Movement.{Movement}
use Rattle.ph_items.specs.Movements.{movement_of, currency_number, counts}
use Rattle.ph_rows.specs.Balances.{net_of, balance_of}
use Rattle.ph_items.specs.Items.{txn_in}
use Rattle.ph_rows.specs.Views.{ViewState}
use Rattle.ph_rows.proofs.BalanceLemmas.{balance_of-cons}
use Rattle.ph_ledger.specs.Steps.{Step, Posts, Advances, after, posted_by, moment_after, no_ledger, is_txn}
use Rattle.ph_ledger.specs.Laws.{BalancesAreSums, OnlyTransactionsCount}

-- a ledger after steps: the rows that they post behind its own, and the moment to which they advance
after_all : (ledger : ViewState) (steps : List Step)
    → fold after ledger steps ≡ record { time = fold moment_after ledger.time steps; rows = ledger.rows ++ filter_map posted_by steps }
after_all ledger [] = ap (λ (rows : List Row). record ledger { rows = rows }) (sym (append-nil ledger.rows))
after_all ledger (Posts row ∷ steps) =
    after_all (after ledger (Posts row)) steps
    ∙ ap (λ (rows : List Row). record { time = fold moment_after ledger.time steps; rows = rows })
    (append_assoc ledger.rows (row ∷ []) (filter_map posted_by steps))
after_all ledger (Advances now ∷ steps) = after_all (after ledger (Advances now)) steps

-- after any steps the balances are the sums over the posted rows
pub balances_sum : BalancesAreSums
balances_sum steps available account currency =
    ap (λ (ledger : ViewState). balance_of available account currency ledger.time ledger.rows) (after_all no_ledger steps)

-- an item that is no transaction moves nothing
moves_nothing : (o : Item) → is_some (txn_in o) ≡ false → movement_of o ≡ None
moves_nothing (item.Txn txn) e = absurd (cc)
moves_nothing other e = refl

-- a row that moves nothing has no balance, whether it is of the account or not
no_balance : (mine : Bool) (test first : Movement → Bool) (row : Row) → movement_of row.item ≡ None
    → net_of (filter test (filter first (filter_map (λ r. movement_of r.item) (cond mine (row ∷ []) [])))) ≡ pos 0
no_balance true test first row e =
    subst (λ (moved : Option Movement). net_of (filter test (filter first (cons_option moved []))) ≡ pos 0) (sym e) refl
no_balance false test first row e = refl

-- a balance with a row in front that moves nothing
past_it : (available : Bool) (account : ℕ) (currency : Currency) (time : ℕ) (row : Row) (rows : List Row)
    → is_txn row ≡ false → balance_of available account currency time rows ≡ balance_of available account currency time (row ∷ rows)
past_it available account currency time row rows other =
    let nothing : balance_of available account currency time (row ∷ []) ≡ pos 0 =
    no_balance (row.account == account) (counts available time) (λ movement. currency_number movement.currency == currency_number currency) row
    (moves_nothing row.item other) in
    let parts = balance_of-cons available account currency time row rows in
    omega (arith, ints)

-- a balance over rows is the one over the transactions among them
pub transactions_count : OnlyTransactionsCount
transactions_count [] available account currency time = refl
transactions_count (row ∷ rows) available account currency time =
    at (is_txn row) refl (transactions_count rows available account currency time)
  where
    at : (b : Bool) → is_txn row ≡ b
        → balance_of available account currency time (filter is_txn rows) ≡ balance_of available account currency time rows
        → balance_of available account currency time (cond b (row ∷ filter is_txn rows) (filter is_txn rows))
        ≡ balance_of available account currency time (row ∷ rows)
    at true e rest =
        balance_of-cons available account currency time row (filter is_txn rows)
        ∙ ap (λ (sum : ℤ). balance_of available account currency time (row ∷ []) +ℤ sum) rest
        ∙ sym (balance_of-cons available account currency time row rows)
    at false e rest = rest ∙ past_it available account currency time row rows e
