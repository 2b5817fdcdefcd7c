-- Laws of fees and parts.
use Rattle.std.specs.Prelude.{ℕ, ◌≤◌, ◌<◌}
use Rattle.ph_money.specs.declared.currencies.Currency.{Currency}
use Rattle.ph_money.specs.Fees.{fee_of, part_of}

-- of two amounts the greater has no smaller fee
abbrev pub FeeGrows : Type 0
FeeGrows = (currency : Currency) (amount more : ℕ) → amount ≤ more → fee_of currency amount ≤ fee_of currency more

-- of two shares of one total the greater has no smaller part
abbrev pub PartGrows : Type 0
PartGrows = (total num more den : ℕ) → 0 < den → num ≤ more → part_of total num den ≤ part_of total more den
