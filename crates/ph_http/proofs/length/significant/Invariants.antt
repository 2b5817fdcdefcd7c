use Rattle.std.proofs.Common.{◌≡◌, drop}
use Rattle.ph_http.specs.Digits.{without_zeros}
use Rattle.ph_http.proofs.length.significant.Given as goal

abbrev pub invariant-loop-i : goal.invariant-loop-i
invariant-loop-i l = without_zeros (drop l.i l.digits) ≡ without_zeros l.digits
