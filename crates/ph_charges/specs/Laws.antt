-- Nothing is lost in a split.
use Rattle.std.specs.Prelude.{◌≡◌, ℕ, ℤ, pos, ◌-ℤ◌, List}
use Rattle.std.specs.List.{filter_map}
use Rattle.ph_money.specs.Fees.{fee_of}
use Rattle.ph_items.specs.declared.charges.Charge.{Charge}
use Rattle.ph_items.specs.Movements.{movement_of}
use Rattle.ph_rows.specs.Balances.{net_of}
use Rattle.ph_charges.specs.NewRows.{NewRow}
use Rattle.ph_charges.specs.Splits.{split_rows}

-- what the rows of a split move, over all accounts
abbrev pub net_of_split : List NewRow → ℤ
net_of_split split = net_of (filter_map (λ row. movement_of row.item) split)

-- whatever is captured of whatever charge, the rows of its split move what was captured, less the processing fee
abbrev pub SplitsAreWhole : Type 0
SplitsAreWhole = (place account object : ℕ) (charge : Charge) (amount now : ℕ)
    → net_of_split (split_rows place account object charge amount now) ≡ pos amount -ℤ pos (fee_of charge.currency amount)
