-- The callers of a history.
use Rattle.std.specs.Prelude.{ℕ, ◌+◌, max, List, [], ◌∷◌}
use Rattle.ph_book.specs.declared.acts.Entry.{Entry}

abbrev pub caller_of : Entry → ℕ
caller_of entry = entry.caller

-- the least number that is this one at least, and above each caller
abbrev pub top_from : ℕ → List Entry → ℕ
top_from least [] = least
top_from least (entry ∷ entries) = top_from (max least (entry.caller + 1)) entries

-- the least number above each caller, 0 where there is no entry
abbrev pub top_of : List Entry → ℕ
top_of entries = top_from 0 entries
