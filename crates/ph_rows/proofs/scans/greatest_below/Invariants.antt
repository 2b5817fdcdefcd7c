use Rattle.std.proofs.Common.{◌≡◌, drop, Some}
use Rattle.std.specs.Prelude.{nat_lt}
use Rattle.std.specs.List.{fold, filter}
use Rattle.ph_rows.specs.Rows.{greater, objects_of, newest_object}
use Rattle.ph_rows.proofs.scans.greatest_below.Given as goal

abbrev pub invariant-loop-row : goal.invariant-loop-row
invariant-loop-row l =
    fold (λ found number. Some (greater found number)) l.found (filter (λ number. nat_lt number l.below) (objects_of l.account l.kind (drop l.row-index l.rows)))
    ≡ newest_object l.account l.kind l.below l.rows
