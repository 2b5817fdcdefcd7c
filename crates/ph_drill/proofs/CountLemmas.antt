-- Rows that are counted one by one.
use Rattle.std.proofs.Common.{◌≡◌, ℕ, ◌+◌, Bool, true, false, List, Some, take, count_by, ap, ◌∙◌}
use Rattle.std.proofs.lemmas.List.Sums.{count_by_more_yes, count_by_more_no}
use Rattle.std.proofs.lemmas.Option.{slice_get_within, get_or_from_slice_get}
use Rattle.ph_rows.specs.declared.rows.Row.{Row}
use Rattle.ph_rows.specs.Rows.{row_at}
use Rattle.ph_views.proofs.SearchLemmas.{row_at-is}

-- a row that passes is one more
pub one_more : (test : Row → Bool) (at : ℕ) (rows : List Row) (row : Row) → row_at (at + 1) rows ≡ Some row → test row ≡ true
    → count_by test (take (at + 1) rows) ≡ count_by test (take at rows) + 1
one_more test at rows row e passes =
    let here = row_at-is at rows row e in
    count_by_more_yes test rows at row (slice_get_within rows at row here) (ap test (get_or_from_slice_get rows at row row here) ∙ passes)

-- another row is none
pub no_more : (test : Row → Bool) (at : ℕ) (rows : List Row) (row : Row) → row_at (at + 1) rows ≡ Some row → test row ≡ false
    → count_by test (take (at + 1) rows) ≡ count_by test (take at rows)
no_more test at rows row e over =
    let here = row_at-is at rows row e in
    count_by_more_no test rows at row (slice_get_within rows at row here) (ap test (get_or_from_slice_get rows at row row here) ∙ over)
