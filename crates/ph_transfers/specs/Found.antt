-- The objects that texts name, and the amount of them that a call names.
use Rattle.std.specs.Prelude.{ℕ, Bool, ◌==◌, ◌||◌, nat_lt, if◌then◌else◌, List, Option, None, Some, codes}
use Rattle.ph_errors.specs.Table.{error_of, InvalidValue, NoSuchObject}
use Rattle.ph_facts.specs.Outcomes.{Outcome, Refuses}
use Rattle.ph_items.specs.declared.items.Item.{Item}
use Rattle.ph_rows.specs.declared.rows.Row.{Row}

-- what is made of a version in its row, where there is one; else what a text names by this name isn't there
abbrev pub made_of : {V : Type 0} → (Row → V → Outcome) → List ℕ → Row → Option V → Outcome
made_of operation name row None = Refuses (error_of (NoSuchObject name))
made_of operation name row (Some version) = operation row version

-- what is made of a row that was found, and of the version in it, where there is one
abbrev pub made_of_row : {V : Type 0} → (Row → V → Outcome) → (Item → Option V) → List ℕ → Option Row → Outcome
made_of_row operation version name None = Refuses (error_of (NoSuchObject name))
made_of_row operation version name (Some row) = made_of operation name row (version row.item)

-- so much can't be taken where so much is left: nothing is left, or less
abbrev pub is_too_much : ℕ → ℕ → Bool
is_too_much left amount = left == 0 || nat_lt left amount

-- what is made with an amount, where so much is left
abbrev pub made_within : (ℕ → Outcome) → ℕ → ℕ → Outcome
made_within make left amount = if is_too_much left amount then Refuses (error_of (InvalidValue (codes "amount"))) else make amount
