-- Tallies: histories of entries that each have a caller and an amount.
use Rattle.std.specs.Prelude.{◌≡◌, ◌<◌, ◌≤◌, ℕ, ◌+◌, List, [], ◌∷◌, length, max}
use Rattle.ph_lock.specs.Histories.{AllBelow}

-- what contracts see of a tally: how many entries it takes, and its entries
pub record TallyState : Type 0 where
  pub limit : ℕ
  pub entries : List (ℕ × ℕ)

-- the caller and the amount of an entry
abbrev pub caller_of : ℕ × ℕ → ℕ
caller_of entry = entry.0

abbrev pub amount_of : ℕ × ℕ → ℕ
amount_of entry = entry.1

-- the sum of the amounts
abbrev pub sum_of : List (ℕ × ℕ) → ℕ
sum_of [] = 0
sum_of (entry ∷ entries) = amount_of entry + sum_of entries

-- each amount is below 2 ^ 32
abbrev pub AllSmall : List (ℕ × ℕ) → Type 0
AllSmall entries = AllBelow amount_of 4294967296 entries

-- a history is lawful where it has at most as many entries as the limit, each of a small amount
pub record IsTally (limit : ℕ) (entries : List (ℕ × ℕ)) : Type 0 where
  pub room : length entries ≤ limit
  pub small : AllSmall entries

-- the least number above each caller, 0 where there is no entry
abbrev pub top_of : List (ℕ × ℕ) → ℕ
top_of [] = 0
top_of (entry ∷ entries) = max (caller_of entry + 1) (top_of entries)

-- what a tally keeps beside its entries: their sum, and the least number above their callers
pub record IsKept (limit : ℕ) (entries : List (ℕ × ℕ)) (sum top : ℕ) : Type 0 where
  pub limit_small : limit < 2147483648
  pub sum_is : sum ≡ sum_of entries
  pub top_is : top ≡ top_of entries
