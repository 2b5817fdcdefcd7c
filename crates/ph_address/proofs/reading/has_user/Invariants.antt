use Rattle.std.proofs.Common.{◌≡◌, ◌==◌, drop}
use Rattle.std.specs.List.{list_any}
use Rattle.http_uri.specs.ByteClasses.{at_sign}
use Rattle.ph_address.proofs.reading.has_user.Given as goal

abbrev pub invariant-loop-b : goal.invariant-loop-b
invariant-loop-b l = list_any (λ b. b == at_sign) (drop l.b-index l.authority) ≡ list_any (λ b. b == at_sign) l.authority
