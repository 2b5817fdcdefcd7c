-- The last version of an object in front of a place, looked for from the place backwards.
use Rattle.std.specs.Prelude.{slice_get}
use Rattle.std.proofs.Common.{◌≡◌, ℕ, ◌+◌, ◌-◌, ◌≤◌, ◌<◌, inl, inr, eqb, List, [], ◌∷◌, ◌++◌, Option, None, Some, length, take, get_or, sym, ap, ◌∙◌, arith}
use Rattle.std.proofs.lemmas.Bool.{eq-eqb, ne_eqb, cond-true, cond-false}
use Rattle.std.proofs.lemmas.List.{take_more}
use Rattle.std.proofs.lemmas.List.Sums.{fold_push}
use Rattle.std.proofs.lemmas.Option.{slice_get_within, get_or_from_slice_get}
use Rattle.ph_rows.specs.declared.rows.Row.{Row}
use Rattle.ph_rows.specs.Rows.{row_at, later_version, latest_of}
use Rattle.ph_rows.proofs.RowLemmas.{picked}
use Rattle.ph_views.specs.Objects.{version_before}

-- the search has come back to a place: the version is the last one among the rows up to there
pub record SearchIsAt (at place object : ℕ) (rows : List Row) : Type 0 where
  pub within : at ≤ length rows
  pub same : latest_of object (take at rows) ≡ version_before place object rows

-- the row of a place is the element in front of it
pub row_at-is : (at : ℕ) (rows : List Row) (row : Row) → row_at (at + 1) rows ≡ Some row → slice_get rows at ≡ Some row
row_at-is at rows row e =
    elim (picked (eqb (at + 1) 0) None (slice_get rows (at + 1 - 1)) (Some row) e) [
      | inl q ↦ (let clash : None ≡ Some row = q.1 in absurd (cc))
      | inr q ↦ (let same : at + 1 - 1 ≡ at = omega arith in rw same at q.1)
    ]

-- the last version of an object with one row more in front
latest_of-more : (object at : ℕ) (rows : List Row) (row : Row) → slice_get rows at ≡ Some row
    → latest_of object (take (at + 1) rows) ≡ later_version object (latest_of object (take at rows)) row
latest_of-more object at rows row e =
    let within = slice_get_within rows at row e in
    let here : get_or rows at row ≡ row = get_or_from_slice_get rows at row row e in
    let longer : take (at + 1) rows ≡ take at rows ++ row ∷ [] = take_more rows at row within ∙ ap (λ (x : Row). take at rows ++ x ∷ []) here in
    ap (latest_of object) longer ∙ fold_push (later_version object) None (take at rows) row

-- one place further back: the row there is a version of the object, and so the last one
found_at : (object at : ℕ) (rows : List Row) (row : Row) (wanted : Option Row)
    → latest_of object (take (at + 1) rows) ≡ wanted → row_at (at + 1) rows ≡ Some row → row.object ≡ object → Some row ≡ wanted
found_at object at rows row wanted h e same =
    sym (latest_of-more object at rows row (row_at-is at rows row e)
    ∙ cond-true (eqb row.object object) (Some row) (latest_of object (take at rows)) (eq-eqb row.object object same)) ∙ h

-- one place further back: the row there is of another object
goes_on_at : (object at : ℕ) (rows : List Row) (row : Row) (wanted : Option Row)
    → latest_of object (take (at + 1) rows) ≡ wanted → row_at (at + 1) rows ≡ Some row → ((row.object ≡ object) → ⊥)
    → latest_of object (take at rows) ≡ wanted
goes_on_at object at rows row wanted h e other =
    sym (latest_of-more object at rows row (row_at-is at rows row e)
    ∙ cond-false (eqb row.object object) (Some row) (latest_of object (take at rows)) (ne_eqb row.object object other)) ∙ h

-- a place is one more than the one in front of it
before_it : (at : ℕ) → 0 < at → at ≡ at - 1 + 1
before_it at some = omega arith

-- it finds the version
pub found_before : (object at : ℕ) (rows : List Row) (row : Row) (wanted : Option Row) → 0 < at
    → latest_of object (take at rows) ≡ wanted → Some row ≡ row_at at rows → row.object ≡ object → Some row ≡ wanted
found_before object at rows row wanted some h e same =
    let place = before_it at some in
    found_at object (at - 1) rows row wanted (ap (λ (k : ℕ). latest_of object (take k rows)) (sym place) ∙ h) (ap (λ (k : ℕ). row_at k rows) (sym place) ∙ sym e) same

-- it goes on at the row in front
pub goes_on_before : (object at : ℕ) (rows : List Row) (row : Row) (wanted : Option Row) → 0 < at
    → latest_of object (take at rows) ≡ wanted → Some row ≡ row_at at rows → ((row.object ≡ object) → ⊥)
    → latest_of object (take (at - 1) rows) ≡ wanted
goes_on_before object at rows row wanted some h e other =
    let place = before_it at some in
    goes_on_at object (at - 1) rows row wanted (ap (λ (k : ℕ). latest_of object (take k rows)) (sym place) ∙ h) (ap (λ (k : ℕ). row_at k rows) (sym place) ∙ sym e) other
