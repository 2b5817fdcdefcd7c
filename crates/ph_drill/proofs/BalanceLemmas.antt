-- The lines of balances, row by row.
use Rattle.std.specs.Prelude.{cond}
use Rattle.std.specs.List.{flat_map}
use Rattle.std.proofs.Common.{◌≡◌, true, false, List, [], ℕ}
use Rattle.std.proofs.lemmas.Bool.{cond-true, cond-false}
use Rattle.ph_base.specs.declared.ids.Kind.TheVariants as kind
use Rattle.ph_rows.specs.declared.rows.Row.{Row}
use Rattle.ph_rows.specs.Views.{ViewState}
use Rattle.ph_drill.specs.Counts.{is_object}
use Rattle.ph_drill.specs.Summary.{account_lines, balance_lines}
use Rattle.ph_drill.proofs.ListLemmas.{filtered_pieces}

-- the lines of a row: those of an account, where it is the first version of one
abbrev pub row_lines : ViewState → Row → List ℕ
row_lines view row = cond (is_object kind.Account row) (account_lines view row.object) []

pub lines_of_account : (view : ViewState) (row : Row) → is_object kind.Account row ≡ true → row_lines view row ≡ account_lines view row.object
lines_of_account view row here = cond-true (is_object kind.Account row) (account_lines view row.object) [] here

pub lines_of_other : (view : ViewState) (row : Row) → is_object kind.Account row ≡ false → row_lines view row ≡ []
lines_of_other view row other = cond-false (is_object kind.Account row) (account_lines view row.object) [] other

-- they are the lines of all balances
pub lines_of_rows : (view : ViewState) → balance_lines view ≡ flat_map (row_lines view) view.rows
lines_of_rows view = filtered_pieces (is_object kind.Account) (λ row. account_lines view row.object) view.rows
