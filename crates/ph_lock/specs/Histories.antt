-- Histories, the oldest entry first, and the entries that one caller has in them.
use Rattle.std.specs.Prelude.{◌≡◌, ◌≢◌, ℕ, suc, ◌<◌, ◌==◌, if◌then◌else◌, List, [], ◌∷◌, ◌++◌}

module _ {E : Type 0} where
  -- the history begins with what was seen of it
  abbrev pub StartsWith : List E → List E → Type 0
  StartsWith history seen = (rest : List E) × (history ≡ seen ++ rest)

  -- the front begins with each of these
  abbrev pub StartsWithEach : List E → List (List E) → Type 0
  StartsWithEach front [] = Unit {0}
  StartsWithEach front (seen ∷ more) = StartsWith front seen × StartsWithEach front more

  -- of two beginnings of one history, the longer one
  abbrev pub longer : List E → List E → List E
  longer [] ys = ys
  longer (x ∷ xs) [] = x ∷ xs
  longer (x ∷ xs) (y ∷ ys) = x ∷ longer xs ys

  -- each entry has a caller below n
  abbrev pub AllBelow : (E → ℕ) → ℕ → List E → Type 0
  AllBelow by n [] = Unit {0}
  AllBelow by n (entry ∷ entries) = (by entry < n) × AllBelow by n entries

  -- none of the entries is of this caller
  abbrev pub NoneOf : (E → ℕ) → ℕ → List E → Type 0
  NoneOf by caller [] = Unit {0}
  NoneOf by caller (entry ∷ entries) = (by entry ≢ caller) × NoneOf by caller entries

  -- the caller's entries with their places, where the first entry of the list has this place
  abbrev pub own_entries : (E → ℕ) → ℕ → ℕ → List E → List (ℕ × E)
  own_entries by caller place [] = []
  own_entries by caller place (entry ∷ entries) =
      if by entry == caller
      then (place, entry) ∷ own_entries by caller (suc place) entries
      else own_entries by caller (suc place) entries
