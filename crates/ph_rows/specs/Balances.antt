-- Balances: sums over the transactions of an account.
use Rattle.std.specs.Prelude.{ℕ, Bool, true, false, ◌==◌, ℤ, pos, ◌+ℤ◌, List, [], ◌∷◌}
use Rattle.std.specs.List.{filter, filter_map}
use Rattle.ph_money.specs.declared.currencies.Currency.{Currency}
use Rattle.ph_items.specs.declared.movements.Movement.{Movement}
use Rattle.ph_items.specs.Movements.{counts, currency_number, movement_of}
use Rattle.ph_rows.specs.declared.rows.Row.{Row}

-- what the transactions of an account in a currency move, in their order
abbrev pub movements_of : ℕ → Currency → List Row → List Movement
movements_of account currency rows =
    filter (λ movement. currency_number movement.currency == currency_number currency)
    (filter_map (λ row. movement_of row.item) (filter (λ row. row.account == account) rows))

-- the sum of what is moved
abbrev pub net_of : List Movement → ℤ
net_of [] = pos 0
net_of (movement ∷ movements) = movement.net +ℤ net_of movements

-- the available or (false) the pending balance of an account in a currency at a time
abbrev pub balance_of : Bool → ℕ → Currency → ℕ → List Row → ℤ
balance_of available account currency time rows =
    net_of (filter (counts available time) (movements_of account currency rows))

-- the available balance: what the transactions move that are available by the time
abbrev pub available_of : ℕ → Currency → ℕ → List Row → ℤ
available_of account currency time rows = balance_of true account currency time rows

-- the pending balance: what the other transactions move
abbrev pub pending_of : ℕ → Currency → ℕ → List Row → ℤ
pending_of account currency time rows = balance_of false account currency time rows
