-- Decimal text.
use Rattle.std.specs.Prelude.{ℕ, suc, zero, ◌+◌, ◌-◌, ◌*◌, ◌/◌, ◌%◌, ◌^◌, ◌&&◌, List, [], ◌∷◌, ◌++◌, nat_lt, if◌then◌else◌, Option, Some, None}
use Rattle.std.specs.List.{list_all}
use Rattle.std.specs.Char.{is_ascii_digit}

-- the number whose digits are those of n and then these
abbrev pub decimal_from : ℕ → List ℕ → ℕ
decimal_from n [] = n
decimal_from n (c ∷ cs) = decimal_from (10 * n + (c - 48)) cs

-- the number that these digits give
abbrev pub decimal : List ℕ → ℕ
decimal digits = decimal_from 0 digits

-- the last k decimal digits of n, with zeros in front
unfoldable pub padded : ℕ → ℕ → List ℕ
padded zero n = []
padded (suc k) n = padded k (n / 10) ++ (48 + n % 10) ∷ []

-- the number that the digits of n and then this text give, where all of the text is digits and 64 bits hold it
unfoldable pub number_from : ℕ → List ℕ → Option ℕ
number_from n text = if list_all is_ascii_digit text && nat_lt (decimal_from n text) (2 ^ 64) then Some (decimal_from n text) else None

-- the number that a text gives, where it has a digit, all of it is digits and 64 bits hold it
abbrev pub number_in : List ℕ → Option ℕ
number_in [] = None
number_in (c ∷ cs) = number_from 0 (c ∷ cs)
