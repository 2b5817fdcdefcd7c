use Rattle.std.proofs.Common.{◌≡◌, ℕ, ◌≤◌, List, ◌++◌, drop, length}
use Rattle.std.specs.Fmt.{decimal}
use Rattle.ph_sign.proofs.decimal_text.DecimalText.new.Given as goal

-- the digits that are left and those written are the number's
pub record Writing (number rest start : ℕ) (bytes : List ℕ) : Type 0 where
  pub width : length bytes ≡ 20
  pub within : start ≤ 20
  pub smaller : rest ≤ number
  pub room : length (decimal rest) ≤ start
  pub text : decimal rest ++ drop start bytes ≡ decimal number

abbrev pub invariant-digits : goal.invariant-digits
invariant-digits l = Writing l.number l.rest l.start l.bytes

abbrev pub decreases-digits : goal.decreases-digits
decreases-digits l = l.rest
