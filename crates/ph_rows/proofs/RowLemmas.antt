-- Lists of rows, with more rows behind them: the row of a place, the present version of an object, tests that none passes.
use Rattle.std.specs.Prelude.{slice_get, ◌==◌, ◌||◌}
use Rattle.std.proofs.Common.{◌≡◌, ℕ, zero, suc, ◌+◌, ◌-◌, ◌≤◌, ◌<◌, ◌⊎◌, inl, inr, Bool, true, false, cond, eqb, List, [], ◌∷◌, ◌++◌, Option, None, Some, length, sym, refl, ap, ◌∙◌, subst, arith}
use Rattle.std.specs.List.{fold, list_any}
use Rattle.std.proofs.lemmas.Bool.{cond-false, cond-true, eq-eqb, eqb-false, eqb-true, ne_eqb}
use Rattle.std.proofs.lemmas.List.{append_assoc}
use Rattle.std.proofs.lemmas.List.Sums.{fold_push}
use Rattle.std.proofs.lemmas.Option.{slice_get_within}
use Rattle.ph_rows.specs.declared.rows.Row.{Row}
use Rattle.ph_rows.specs.Rows.{row_at, later_version, latest_of}

-- which of two was chosen
pub picked : {A : Type 0} (b : Bool) (x y z : A) → cond b x y ≡ z → ((b ≡ true) × (x ≡ z)) ⊎ ((b ≡ false) × (y ≡ z))
picked true x y z e = inl (refl, e)
picked false x y z e = inr (refl, e)

-- an element stays where it is with more elements behind
pub slice_get-before : (rows more : List Row) (i : ℕ) (row : Row) → slice_get rows i ≡ Some row
    → slice_get (rows ++ more) i ≡ Some row
slice_get-before [] more i row e = absurd (cc)
slice_get-before (x ∷ rows) more zero row e = e
slice_get-before (x ∷ rows) more (suc i) row e = slice_get-before rows more i row e

-- the element behind all others
pub slice_get-next : (rows : List Row) (new : Row) → slice_get (rows ++ new ∷ []) (length rows) ≡ Some new
slice_get-next [] new = refl
slice_get-next (x ∷ rows) new = slice_get-next rows new

-- an element with one more behind is one of the others or that one
pub slice_get-more : (rows : List Row) (new : Row) (i : ℕ) (row : Row) → slice_get (rows ++ new ∷ []) i ≡ Some row
    → (slice_get rows i ≡ Some row) ⊎ ((i ≡ length rows) × (new ≡ row))
slice_get-more [] new zero row e = inr (refl, cc)
slice_get-more [] new (suc i) row e = absurd (cc)
slice_get-more (x ∷ rows) new zero row e = inl e
slice_get-more (x ∷ rows) new (suc i) row e = elim (slice_get-more rows new i row e) [ inl old ↦ inl old | inr last ↦ inr (ap suc last.0, last.1) ]

-- the row of a place is the element before it
pub row_at-is : (place : ℕ) (rows : List Row) (row : Row) → row_at place rows ≡ Some row
    → ((place ≡ 0) → ⊥) × (slice_get rows (place - 1) ≡ Some row)
row_at-is place rows row e =
    elim (picked (eqb place 0) None (slice_get rows (place - 1)) (Some row) e) [
      | inl q ↦ (let clash : None ≡ Some row = q.1 in absurd (cc))
      | inr q ↦ (eqb-false place 0 q.0, q.1)
    ]

-- the element before a place is its row
pub is_row_at : (place : ℕ) (rows : List Row) (row : Row) → ((place ≡ 0) → ⊥) → slice_get rows (place - 1) ≡ Some row
    → row_at place rows ≡ Some row
is_row_at place rows row some e = cond-false (eqb place 0) None (slice_get rows (place - 1)) (ne_eqb place 0 some) ∙ e

-- the row of a place stays with more rows behind
pub row_at-before : (place : ℕ) (rows more : List Row) (row : Row) → row_at place rows ≡ Some row
    → row_at place (rows ++ more) ≡ Some row
row_at-before place rows more row e =
    let found : ((place ≡ 0) → ⊥) × (slice_get rows (place - 1) ≡ Some row) = row_at-is place rows row e in
    is_row_at place (rows ++ more) row found.0 (slice_get-before rows more (place - 1) row found.1)

-- the row at the next place
pub row_at-next : (rows : List Row) (new : Row) → row_at (length rows + 1) (rows ++ new ∷ []) ≡ Some new
row_at-next rows new =
    let last : length rows ≡ (length rows + 1) - 1 = omega arith in
    is_row_at (length rows + 1) (rows ++ new ∷ []) new (λ e. omega arith) (subst (λ i. slice_get (rows ++ new ∷ []) i ≡ Some new) last (slice_get-next rows new))

-- a place that has a row is one of the places
pub row_at_within : (place : ℕ) (rows : List Row) (row : Row) → row_at place rows ≡ Some row
    → (0 < place) × (place ≤ length rows)
row_at_within place rows row e =
    let found : ((place ≡ 0) → ⊥) × (slice_get rows (place - 1) ≡ Some row) = row_at-is place rows row e in
    let some : (place ≡ 0) → ⊥ = found.0 in
    let below : place - 1 < length rows = slice_get_within rows (place - 1) row found.1 in
    (omega arith, omega arith)

-- an element behind others
pub slice_get-behind : (rows more : List Row) (i : ℕ) → slice_get (rows ++ more) (length rows + i) ≡ slice_get more i
slice_get-behind [] more i = (let none : 0 + i ≡ i = omega arith in ap (slice_get more) none)
slice_get-behind (x ∷ rows) more i =
    let one : length (x ∷ rows) + i ≡ suc (length rows + i) = omega arith in
    ap (slice_get (x ∷ rows ++ more)) one ∙ slice_get-behind rows more i

-- with one row more, the row of a place is an earlier one or that one
pub row_at-more : (place : ℕ) (rows : List Row) (new row : Row) → row_at place (rows ++ new ∷ []) ≡ Some row
    → (row_at place rows ≡ Some row) ⊎ ((place ≡ length rows + 1) × (new ≡ row))
row_at-more place rows new row e = at (row_at-is place (rows ++ new ∷ []) row e)
  where
    at : ((place ≡ 0) → ⊥) × (slice_get (rows ++ new ∷ []) (place - 1) ≡ Some row)
        → (row_at place rows ≡ Some row) ⊎ ((place ≡ length rows + 1) × (new ≡ row))
    at found =
        let some : (place ≡ 0) → ⊥ = found.0 in
        elim (slice_get-more rows new (place - 1) row found.1) [
          | inl old ↦ inl (is_row_at place rows row some old)
          | inr last ↦ (let e : place - 1 ≡ length rows = last.0 in inr (omega arith, last.1))
        ]

-- of two tests of which neither passes, the first and the second
pub first_fails : (a b : Bool) → (a || b) ≡ false → a ≡ false
first_fails true b e = e
first_fails false b e = refl

pub second_fails : (a b : Bool) → (a || b) ≡ false → b ≡ false
second_fails true b e = absurd (cc)
second_fails false b e = e

-- and two that fail
pub both_fail : (a b : Bool) → a ≡ false → b ≡ false → (a || b) ≡ false
both_fail true b e f = e
both_fail false b e f = f

-- a list of which neither part passes a test
pub neither_part : (test : Row → Bool) (rows more : List Row) → list_any test rows ≡ false → list_any test more ≡ false
    → list_any test (rows ++ more) ≡ false
neither_part test [] more first second = second
neither_part test (row ∷ rows) more first second =
    both_fail (test row) (list_any test (rows ++ more)) (first_fails (test row) (list_any test rows) first)
    (neither_part test rows more (second_fails (test row) (list_any test rows) first) second)

-- a version found among rows is the one found before or one of them, of the object
pub found_among : (object : ℕ) (found : Option Row) (rows : List Row) (row : Row)
    → fold (later_version object) found rows ≡ Some row
    → (found ≡ Some row) ⊎ ((i : ℕ) × (slice_get rows i ≡ Some row) × (row.object ≡ object))
found_among object found [] row e = inl e
found_among object found (x ∷ rows) row e = elim (found_among object (later_version object found x) rows row e) [
  | inl here ↦ elim (picked (eqb x.object object) (Some x) found (Some row) here) [
    | inl q ↦ inr (0, q.1, of_object x row (eqb-true x.object object q.0) q.1)
    | inr q ↦ inl q.1
  ]
  | inr there ↦ inr (suc there.0, there.1, there.2)
]
  where
    of_object : (x row : Row) → x.object ≡ object → Some x ≡ Some row → row.object ≡ object
    of_object x row o same = let e : x ≡ row = cc in ap (λ (r : Row). r.object) (sym e) ∙ o

-- a row is a version of an object
abbrev pub is_version : ℕ → Row → Bool
is_version object row = row.object == object

-- the version of an object that was found stays the last one with rows of which none is a version of it
pub found_stays : (object : ℕ) (found : Option Row) (more : List Row) → list_any (is_version object) more ≡ false
    → fold (later_version object) found more ≡ found
found_stays object found [] apart = refl
found_stays object found (row ∷ more) apart =
    ap (λ (o : Option Row). fold (later_version object) o more)
    (cond-false (eqb row.object object) (Some row) found (first_fails (is_version object row) (list_any (is_version object) more) apart))
    ∙ found_stays object found more (second_fails (is_version object row) (list_any (is_version object) more) apart)

-- the versions of an object over rows, and over more behind them
pub latest_from : (object : ℕ) (found : Option Row) (rows more : List Row)
    → fold (later_version object) found (rows ++ more) ≡ fold (later_version object) (fold (later_version object) found rows) more
latest_from object found [] more = refl
latest_from object found (row ∷ rows) more = latest_from object (later_version object found row) rows more

-- the present version of an object stays with rows of which none is a version of it
pub latest_of-apart : (object : ℕ) (rows more : List Row) → list_any (is_version object) more ≡ false
    → latest_of object (rows ++ more) ≡ latest_of object rows
latest_of-apart object rows more apart = latest_from object None rows more ∙ found_stays object (latest_of object rows) more apart

-- the last of some rows is the present version of its object
pub latest_of-last : (rows : List Row) (new : Row) → latest_of new.object (rows ++ new ∷ []) ≡ Some new
latest_of-last rows new =
    fold_push (later_version new.object) None rows new
    ∙ cond-true (eqb new.object new.object) (Some new) (latest_of new.object rows) (eq-eqb new.object new.object refl)

-- a row is the present version of its object where none behind it is a version of that
pub latest_of-front : (rows more : List Row) (new : Row) → list_any (is_version new.object) more ≡ false
    → latest_of new.object (rows ++ new ∷ more) ≡ Some new
latest_of-front rows more new apart =
    ap (latest_of new.object) (sym (append_assoc rows (new ∷ []) more))
    ∙ latest_of-apart new.object (rows ++ new ∷ []) more apart ∙ latest_of-last rows new

-- and where it stands behind others
pub latest_of-behind : (rows more : List Row) (new : Row) → latest_of new.object (rows ++ (more ++ new ∷ [])) ≡ Some new
latest_of-behind rows more new =
    ap (latest_of new.object) (sym (append_assoc rows more (new ∷ []))) ∙ latest_of-last (rows ++ more) new
