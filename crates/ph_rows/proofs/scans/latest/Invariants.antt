use Rattle.std.proofs.Common.{◌≡◌, drop}
use Rattle.std.specs.List.{fold}
use Rattle.std.specs.Option.{option_copied}
use Rattle.ph_rows.specs.Rows.{later_version, latest_of}
use Rattle.ph_rows.proofs.scans.latest.Given as goal

abbrev pub invariant-loop-row : goal.invariant-loop-row
invariant-loop-row l = fold (later_version l.object) (option_copied l.found) (drop l.row-index l.rows) ≡ latest_of l.object l.rows
