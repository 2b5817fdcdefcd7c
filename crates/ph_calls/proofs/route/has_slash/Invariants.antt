use Rattle.std.proofs.Common.{◌≡◌, ◌==◌, drop}
use Rattle.std.specs.List.{list_any}
use Rattle.ph_calls.proofs.route.has_slash.Given as goal

abbrev pub invariant-loop-b : goal.invariant-loop-b
invariant-loop-b l = list_any (λ b. b == 47) (drop l.b-index l.text) ≡ list_any (λ b. b == 47) l.text
