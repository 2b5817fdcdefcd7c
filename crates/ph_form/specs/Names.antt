-- The names of a form, a base and keys in brackets as in `base[key][key]`, and which name lies below which.
use Rattle.std.specs.Prelude.{◌≡◌, ℕ, ◌==◌, ◌&&◌, ◌||◌, Bool, true, false, if◌then◌else◌, List, [], ◌∷◌, ◌++◌, take, drop, Option, Some, None, bytes_eq}
use Rattle.std.specs.List.{list_any, position_or_len}

-- `[` or `]`
abbrev pub is_bracket : ℕ → Bool
is_bracket b = (b == 91) || (b == 93)

-- the keys read so far and those of the text left, which begins within brackets or outside them, after this part of a key
abbrev pub keys_from : List (List ℕ) → Bool → List ℕ → List ℕ → Option (List (List ℕ))
keys_from keys false key [] = Some keys
keys_from keys true key [] = None
keys_from keys false key (b ∷ text) = if b == 91 then keys_from keys true [] text else None
keys_from keys true key (b ∷ text) =
    if b == 93 then keys_from (keys ++ key ∷ []) false [] text
    else (if b == 91 then None else keys_from keys true (key ++ b ∷ []) text)

-- the base of a name: what stands before its first bracket
abbrev pub base_of : List ℕ → List ℕ
base_of name = take (position_or_len is_bracket name) name

-- what follows the base of a name
abbrev pub tail_of : List ℕ → List ℕ
tail_of name = drop (position_or_len is_bracket name) name

-- the keys of a name, each without brackets; none where what follows the base isn't a row of keys in brackets
abbrev pub keys_of : List ℕ → Option (List (List ℕ))
keys_of name = keys_from [] false [] (tail_of name)

-- the text is these keys, each in brackets, one after another
abbrev pub in_brackets : List (List ℕ) → List ℕ
in_brackets [] = []
in_brackets (key ∷ keys) = 91 ∷ (key ++ (93 ∷ in_brackets keys))

-- a key has a bracket
abbrev pub has_bracket : List ℕ → Bool
has_bracket key = list_any is_bracket key

-- the keys of a tail are these: it is these keys in brackets, and none has a bracket
abbrev pub AreKeys : List (List ℕ) → List ℕ → Type 0
AreKeys keys tail = (tail ≡ in_brackets keys) × (list_any has_bracket keys ≡ false)

-- the name of a key below a beginning, as `beginning[key]`
abbrev pub child : List ℕ → List ℕ → List ℕ
child beginning key = beginning ++ (91 ∷ (key ++ (93 ∷ [])))

-- the name lies below this one: it is this one and goes on with `[`
abbrev pub is_below : List ℕ → List ℕ → Bool
is_below [] [] = false
is_below [] (b ∷ name) = b == 91
is_below (c ∷ upper) [] = false
is_below (c ∷ upper) (b ∷ name) = (c == b) && is_below upper name

-- the name is this one, or lies below it
abbrev pub is_within : List ℕ → List ℕ → Bool
is_within upper name = bytes_eq upper name || is_below upper name
