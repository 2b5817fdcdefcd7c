use Rattle.std.proofs.Common.{◌≡◌, drop, Some}
use Rattle.std.specs.Prelude.{nat_lt}
use Rattle.std.specs.List.{fold, filter}
use Rattle.ph_rows.specs.Rows.{lesser, objects_of, oldest_object}
use Rattle.ph_rows.proofs.scans.least_above.Given as goal

abbrev pub invariant-loop-row : goal.invariant-loop-row
invariant-loop-row l =
    fold (λ found number. Some (lesser found number)) l.found (filter (λ number. nat_lt l.above number) (objects_of l.account l.kind (drop l.row-index l.rows)))
    ≡ oldest_object l.account l.kind l.above l.rows
