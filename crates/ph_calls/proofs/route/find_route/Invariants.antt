use Rattle.std.proofs.Common.{◌≡◌, map, drop}
use Rattle.ph_calls.specs.Routes.{route_in}
use Rattle.ph_calls.specs.Table.{line_of, table}
use Rattle.ph_calls.proofs.route.find_route.Given as goal

abbrev pub invariant-loop-row : goal.invariant-loop-row
invariant-loop-row l = route_in (map line_of (drop l.row-index l.rows)) l.method l.path ≡ route_in table l.method l.path
