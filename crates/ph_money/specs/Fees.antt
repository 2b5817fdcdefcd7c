-- The fee of a charge, and the part of a total.
use Rattle.std.specs.Prelude.{ℕ, ◌+◌, ◌*◌, ◌/◌}
use Rattle.ph_money.specs.declared.currencies.Currency.{Currency}
use Rattle.ph_money.specs.Currencies.{terms_of}

-- the fee of a charge: its rate of the amount, rounded half up, and its fixed part
abbrev pub fee_of : Currency → ℕ → ℕ
fee_of currency amount =
    (amount * (terms_of currency).rate + 5000) / 10000 + (terms_of currency).fixed

-- the part of a total that num is of den, rounded down
abbrev pub part_of : ℕ → ℕ → ℕ → ℕ
part_of total num den = total * num / den
