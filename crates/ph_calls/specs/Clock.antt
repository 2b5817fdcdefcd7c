-- The setting of the clock.
use Rattle.std.specs.Prelude.{ℕ, nat_lt, [], ◌∷◌, Option, codes}
use Rattle.ph_errors.specs.declared.api_error.ApiError.{ApiError}
use Rattle.ph_errors.specs.Table.{ParameterInvalidInteger, error_of}
use Rattle.ph_items.specs.Clocks.{clock_limit}
use Rattle.ph_calls.specs.Check.{first_that_holds}
use Rattle.ph_calls.specs.declared.call.SetClock.{SetClock}

-- the setting of the clock
abbrev pub set_clock : ℕ → SetClock
set_clock now = record { now = now }

-- the further check of the clock: a time that no clock shows
abbrev pub set_clock_error : SetClock → Option ApiError
set_clock_error c = first_that_holds ((nat_lt clock_limit c.now, error_of (ParameterInvalidInteger (codes "now"))) ∷ [])
