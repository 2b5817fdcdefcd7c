-- Balances, with one row more.
use Rattle.std.proofs.Common.{◌≡◌, ℕ, ◌+◌, ◌<◌, suc, Bool, true, false, cond, List, [], ◌∷◌, length, get_or, drop, Option, None, Some, sym, ap, ◌∙◌, arith}
use Rattle.std.proofs.Math.Seq.{drop-cons}
use Rattle.std.specs.Prelude.{ℤ, pos, ◌+ℤ◌, ◌==◌}
use Rattle.std.specs.List.{filter, filter_map, cons_option}
use Rattle.std.proofs.lemmas.Int.{ints}
use Rattle.ph_money.specs.declared.currencies.Currency.{Currency}
use Rattle.ph_rows.specs.declared.rows.Row.{Row}
use Rattle.ph_items.specs.declared.movements.Movement.{Movement}
use Rattle.ph_items.specs.Movements.{movement_of, currency_number, counts}
use Rattle.ph_rows.specs.Balances.{net_of, balance_of}

-- what is moved by the movements that pass both tests, the second one first
abbrev net_passing : (Movement → Bool) → (Movement → Bool) → List Movement → ℤ
net_passing test first movements = net_of (filter test (filter first movements))

-- what rows move
abbrev moves_of : List Row → List Movement
moves_of rows = filter_map (λ row. movement_of row.item) rows

-- a sum that begins with nothing
nothing_and : (sum : ℤ) → sum ≡ pos 0 +ℤ sum
nothing_and sum = omega (arith, ints)

-- a movement that counts, or doesn't, and the others
counted : (b : Bool) (movement : Movement) (others : List Movement)
    → net_of (cond b (movement ∷ others) others) ≡ net_of (cond b (movement ∷ []) []) +ℤ net_of others
counted true movement others = omega (arith, ints)
counted false movement others = nothing_and (net_of others)

-- the same where another test comes first
kept : (b : Bool) (test : Movement → Bool) (movement : Movement) (others : List Movement)
    → net_of (filter test (cond b (movement ∷ others) others))
    ≡ net_of (filter test (cond b (movement ∷ []) [])) +ℤ net_of (filter test others)
kept true test movement others = counted (test movement) movement (filter test others)
kept false test movement others = nothing_and (net_of (filter test others))

-- the same of what an item moves, if it moves anything
moved : (item : Option Movement) (test first : Movement → Bool) (others : List Movement)
    → net_passing test first (cons_option item others)
    ≡ net_passing test first (cons_option item []) +ℤ net_passing test first others
moved None test first others = nothing_and (net_passing test first others)
moved (Some movement) test first others = kept (first movement) test movement (filter first others)

-- the same of a row, if it is one of the account
of_account : (b : Bool) (test first : Movement → Bool) (row : Row) (rows : List Row)
    → net_passing test first (moves_of (cond b (row ∷ rows) rows))
    ≡ net_passing test first (moves_of (cond b (row ∷ []) [])) +ℤ net_passing test first (moves_of rows)
of_account true test first row rows = moved (movement_of row.item) test first (moves_of rows)
of_account false test first row rows = nothing_and (net_passing test first (moves_of rows))

-- a balance is what the first row moves and what the others do
pub balance_of-cons : (available : Bool) (account : ℕ) (currency : Currency) (time : ℕ) (row : Row) (rows : List Row)
    → balance_of available account currency time (row ∷ rows)
    ≡ balance_of available account currency time (row ∷ []) +ℤ balance_of available account currency time rows
balance_of-cons available account currency time row rows =
    of_account (row.account == account) (counts available time)
    (λ movement. currency_number movement.currency == currency_number currency) row
    (filter (λ (r : Row). r.account == account) rows)

-- the balance from a place on is what the row there moves and what those after it do
pub balance_of-drop : (available : Bool) (account : ℕ) (currency : Currency) (time : ℕ) (rows : List Row) (index : ℕ) (row : Row)
    → index < length rows → row ≡ get_or rows index row
    → balance_of available account currency time (drop index rows)
    ≡ balance_of available account currency time (row ∷ [])
    +ℤ balance_of available account currency time (drop (index + 1) rows)
balance_of-drop available account currency time rows index row within here =
    let next : suc index ≡ index + 1 = omega arith in
    let cell : drop index rows ≡ row ∷ drop (index + 1) rows =
    drop-cons rows index row within
    ∙ ap (λ (r : Row). r ∷ drop (suc index) rows) (sym here)
    ∙ ap (λ (n : ℕ). row ∷ drop n rows) next in
    ap (λ (rest : List Row). balance_of available account currency time rest) cell
    ∙ balance_of-cons available account currency time row (drop (index + 1) rows)
