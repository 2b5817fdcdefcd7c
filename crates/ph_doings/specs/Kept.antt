-- The attempts that aren't settled, as the program keeps them.
use Rattle.std.specs.Prelude.{ℕ, ◌==◌, ◌&&◌, Bool, List, [], ◌∷◌, Option, Some, None}
use Rattle.std.specs.List.{find}
use Rattle.ph_attempts.specs.Attempts.{Step, after, live_in}
use Rattle.ph_attempts.specs.Attempts as step
use Rattle.ph_attempts.specs.declared.flights.Flight.{Flight}
use Rattle.ph_attempts.specs.declared.flights.Attempt.{Attempt}
use Rattle.ph_doings.specs.Doings.{Doing, Leaves, Puts, Edits, Begins, Resumes, Parks, Settles}

-- the step of an attempt that a doing makes
abbrev pub step_of : Doing → Option Step
step_of Leaves = None
step_of (Puts intent status) = None
step_of (Edits intent status) = None
step_of (Begins cause intent flight) = Some (step.Begins flight)
step_of (Resumes intent flight) = Some (step.Resumes flight)
step_of (Parks intent flight) = Some (step.Parks flight)
step_of (Settles intent flight capture ruling) = Some (step.Settles flight)

-- the attempts after a step, where one is made
abbrev pub after_step : List Attempt → Option Step → List Attempt
after_step attempts None = attempts
after_step attempts (Some step) = after attempts step

-- the attempts that are kept after the past
abbrev pub attempts_after : List Doing → List Attempt
attempts_after [] = []
attempts_after (doing ∷ past) = after_step (attempts_after past) (step_of doing)

-- it has this number and caller
abbrev pub is_run : ℕ → ℕ → Flight → Bool
is_run caller run flight = flight.run == run && flight.caller == caller

-- the live run of a caller with a number
abbrev pub run_in : List Attempt → ℕ → ℕ → Option Flight
run_in attempts caller run = find (is_run caller run) (live_in attempts)
