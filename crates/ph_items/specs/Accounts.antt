-- The platform's own account.
use Rattle.std.specs.Prelude.{ℕ}

-- its number: it is the first object of every history
abbrev pub platform : ℕ
platform = 1
