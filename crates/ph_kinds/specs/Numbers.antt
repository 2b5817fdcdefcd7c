-- Numbers and amounts.
use Rattle.std.specs.Prelude.{ℕ, nat_le, if◌then◌else◌, List, Option, Some, None, Result, Ok, Err, ok_or}
use Rattle.ph_base.specs.Numbers.{number_in}
use Rattle.ph_kinds.specs.declared.flaw.Flaw.{Flaw}
use Rattle.ph_kinds.specs.declared.flaw.Flaw.TheVariants.{InvalidInteger, AmountTooLarge}

-- a number: a text of digits, below 2^64
abbrev pub whole_in : List ℕ → Result ℕ Flaw
whole_in text = ok_or (number_in text) InvalidInteger

-- the number, where there is one and it is at most 99999999
abbrev pub amount_by : Option ℕ → Result ℕ Flaw
amount_by None = Err InvalidInteger
amount_by (Some n) = if nat_le n 99999999 then Ok n else Err AmountTooLarge

-- an amount: a number of at most 99999999
abbrev pub amount_in : List ℕ → Result ℕ Flaw
amount_in text = amount_by (number_in text)
