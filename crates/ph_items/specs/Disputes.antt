-- What a dispute costs.
use Rattle.std.specs.Prelude.{ℕ}

-- the fee of a dispute, in minor units of its currency
abbrev pub dispute_fee : ℕ
dispute_fee = 1500
