use Rattle.std.proofs.Common.{◌≡◌, ◌≤◌, length}
use Rattle.ph_http.specs.Requests.{lists_close}
use Rattle.ph_http.proofs.tokens.has_close.Given as goal

abbrev pub invariant-loop-comma : goal.invariant-loop-comma
invariant-loop-comma l = record {
  within : length l.rest ≤ length l.value;
  value : lists_close l.rest ≡ lists_close l.value;
}

abbrev pub decreases-loop-comma : goal.decreases-loop-comma
decreases-loop-comma l = length l.rest
