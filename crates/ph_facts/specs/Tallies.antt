-- Amounts of objects, as rows add up to them.
use Rattle.std.specs.Prelude.{◌≡◌, ℕ, ◌==◌, if◌then◌else◌, List, [], ◌∷◌, Option, None, Some}
use Rattle.ph_items.specs.declared.items.Item.{Item}
use Rattle.ph_rows.specs.declared.rows.Row.{Row}
use Rattle.ph_rows.specs.Rows.{latest_of}

-- what a row adds, and the number of the object to whose amount it is added
pub record Addition (A : Type 0) : Type 0 where
  pub object : ℕ
  pub amount : A

-- an amount that objects have
pub record Tally (A : Type 0) : Type 0 where
  -- what it is of an object to which nothing was added
  pub nothing : A
  -- one amount, and another behind it
  pub plus : A → A → A
  -- what a row adds to it, if it adds anything
  pub adds : Row → Option (Addition A)
  -- what a version of an object says that its own is, if it says anything of it
  pub said : Item → Option A

-- what an addition gives to an object
abbrev pub given : {A : Type 0} → A → ℕ → Option (Addition A) → A
given nothing object None = nothing
given nothing object (Some addition) = if addition.object == object then addition.amount else nothing

-- the amount of an object: what the rows add to it, in their order
abbrev pub sum_for : {A : Type 0} → Tally A → ℕ → List Row → A
sum_for tally object [] = tally.nothing
sum_for tally object (row ∷ rows) =
    tally.plus (given tally.nothing object (tally.adds row)) (sum_for tally object rows)

-- the present version of an object says what the rows add up to, where it says anything
abbrev pub SaysSum : {A : Type 0} → Tally A → ℕ → List Row → Type 0
SaysSum {A} tally object rows = (row : Row) (amount : A) → latest_of object rows ≡ Some row → tally.said row.item ≡ Some amount
    → amount ≡ sum_for tally object rows

-- the present versions of all objects do
abbrev pub SaySums : {A : Type 0} → Tally A → List Row → Type 0
SaySums tally rows = (object : ℕ) → SaysSum tally object rows
