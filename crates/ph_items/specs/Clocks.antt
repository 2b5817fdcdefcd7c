-- What a clock shows.
use Rattle.std.specs.Prelude.{ℕ}

-- the last moment that a clock shows: the end of the year 9999
abbrev pub clock_limit : ℕ
clock_limit = 253402300799
