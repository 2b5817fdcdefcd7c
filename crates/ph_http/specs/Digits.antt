-- Decimal digits, of numbers of any size.
use Rattle.std.specs.Prelude.{ℕ, Bool, ◌&&◌, not, ◌==◌, if◌then◌else◌, List, [], ◌∷◌, length}
use Rattle.std.specs.List.{list_all}
use Rattle.std.specs.Char.{is_ascii_digit}
use Rattle.ph_base.specs.Numbers.{decimal_from}

-- the text has digits alone, and at least one
abbrev pub is_number : List ℕ → Bool
is_number text = not (length text == 0) && list_all is_ascii_digit text

-- the number that these digits give; zeros in front don't count
unfoldable pub number_of : List ℕ → ℕ
number_of digits = decimal_from 0 digits

-- both texts are numbers, and the same one
unfoldable pub is_same_number : List ℕ → List ℕ → Bool
is_same_number a b = is_number a && is_number b && number_of a == number_of b

-- the digits without the zeros in front
abbrev pub without_zeros : List ℕ → List ℕ
without_zeros [] = []
without_zeros (c ∷ cs) = if c == 48 then without_zeros cs else c ∷ cs
