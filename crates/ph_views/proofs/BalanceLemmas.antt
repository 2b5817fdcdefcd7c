-- Whether an account has transactions, read row by row.
use Rattle.std.specs.Prelude.{slice_get, ◌-◌}
use Rattle.std.specs.List.{list_any}
use Rattle.std.proofs.Common.{◌≡◌, ℕ, ◌+◌, ◌<◌, inl, inr, eqb, Bool, true, false, List, [], ◌∷◌, None, Some, length, take, get_or, refl, subst, ap, ◌∙◌, arith}
use Rattle.std.proofs.lemmas.List.Folds.{list_any_at, list_any_more}
use Rattle.std.proofs.lemmas.Bool.{eqb-true}
use Rattle.std.proofs.lemmas.Option.{slice_get_within, get_or_from_slice_get, slice_get-get_or}
use Rattle.ph_rows.specs.declared.rows.Row.{Row}
use Rattle.ph_rows.specs.Rows.{row_at}
use Rattle.ph_rows.proofs.RowLemmas.{picked}
use Rattle.ph_views.proofs.SearchLemmas.{row_at-is}

-- a row that passes settles it
pub passes_at : (test : Row → Bool) (at : ℕ) (rows : List Row) (row : Row)
    → row_at (at + 1) rows ≡ Some row → test row ≡ true → list_any test rows ≡ true
passes_at test at rows row e passes =
    let here = row_at-is at rows row e in
    list_any_at test rows at row (slice_get_within rows at row here) (ap test (get_or_from_slice_get rows at row row here) ∙ passes)

-- a row that doesn't leaves it open
pub passes_over : (test : Row → Bool) (at : ℕ) (rows : List Row) (row : Row)
    → row_at (at + 1) rows ≡ Some row → test row ≡ false → list_any test (take at rows) ≡ false
    → list_any test (take (at + 1) rows) ≡ false
passes_over test at rows row e over so_far =
    let here = row_at-is at rows row e in
    let other : test (get_or rows at row) ≡ false = ap test (get_or_from_slice_get rows at row row here) ∙ over in
    list_any_more test rows at row (slice_get_within rows at row here) ∙ rw (so_far, other) refl

-- a place within the rows has a row
pub no_row : (at : ℕ) (rows : List Row) (count : ℕ) → count ≡ length rows → at < count → row_at (at + 1) rows ≡ None → ⊥
no_row at rows count whole within e = by_case rows (subst (λ n. at < n) whole within) e
  where
    by_case : (rows : List Row) → at < length rows → row_at (at + 1) rows ≡ None → ⊥
    by_case [] inside none = omega (arith, inside)
    by_case (first ∷ rest) inside none = elim (picked (eqb (at + 1) 0) None (slice_get (first ∷ rest) (at + 1 - 1)) None none) [
      | inl q ↦ (let clash : at + 1 ≡ 0 = eqb-true (at + 1) 0 q.0 in omega (arith, clash))
      | inr q ↦ (let here = slice_get-get_or (first ∷ rest) at first inside in let same : at + 1 - 1 ≡ at = omega arith in let gone = subst (λ k. slice_get (first ∷ rest) k ≡ None) same q.1 in absurd (cc))
    ]
