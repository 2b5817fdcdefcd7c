-- Where the head at the front of some bytes ends.
use Rattle.std.specs.Prelude.{ℕ, ◌+◌, Bool, ◌&&◌, ◌||◌, ◌==◌, nat_lt, if◌then◌else◌, List, [], ◌∷◌, drop, Option, Some, None, option_map}

-- the byte is CR or LF
abbrev pub is_newline : ℕ → Bool
is_newline b = b == 13 || b == 10

-- how many CR and LF bytes they begin with
abbrev pub leading : List ℕ → ℕ
leading [] = 0
leading (b ∷ bytes) = if is_newline b then leading bytes + 1 else 0

-- the length of the empty line that they begin with, LF or CR LF; 0 where they begin with none
abbrev pub empty_line : List ℕ → ℕ
empty_line [] = 0
empty_line (b ∷ []) = if b == 10 then 1 else 0
empty_line (b ∷ c ∷ bytes) = if b == 10 then 1 else (if b == 13 && c == 10 then 2 else 0)

-- the length up to the first LF that an empty line follows, and that line with it
abbrev pub to_empty_line : List ℕ → Option ℕ
to_empty_line [] = None
to_empty_line (b ∷ bytes) =
    if b == 10 && nat_lt 0 (empty_line bytes) then Some (empty_line bytes + 1)
    else option_map (λ n. n + 1) (to_empty_line bytes)

-- the length of the head at the front, with the CR and LF bytes before it and the empty line that ends it
unfoldable pub head_len : List ℕ → Option ℕ
head_len bytes = option_map (λ n. n + leading bytes) (to_empty_line (drop (leading bytes) bytes))
