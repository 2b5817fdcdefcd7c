-- Runs of attempts, read off the past. Places count from 1, so the newest doing stands at the past's length.
use Rattle.std.specs.Prelude.{ℕ, zero, suc, ◌==◌, if◌then◌else◌, List, [], ◌∷◌, ◌++◌, length}
use Rattle.ph_attempts.specs.Attempts.{is_same_run}
use Rattle.ph_attempts.specs.declared.flights.Flight.{Flight}
use Rattle.ph_doings.specs.Doings.{Doing, Leaves, Puts, Edits, Begins, Resumes, Parks, Settles}

-- a run: not live, or the live one of a number
pub data Run : Type 0 where
  NoRun : Run
  Flies : Flight → Run

-- a run after an end of a run: its own caller's end of it is the last of it
abbrev pub ended_by : Flight → Run → Run
ended_by flight NoRun = NoRun
ended_by flight (Flies other) = if is_same_run flight other then NoRun else Flies other

-- the run of a number after a doing
abbrev pub run_after : Doing → ℕ → Run → Run
run_after Leaves run old = old
run_after (Puts intent status) run old = old
run_after (Edits intent status) run old = old
run_after (Begins cause intent flight) run old = if run == flight.run then Flies flight else old
run_after (Resumes intent flight) run old = if run == flight.run then Flies flight else old
run_after (Parks intent flight) run old = ended_by flight old
run_after (Settles intent flight capture ruling) run old = ended_by flight old

-- the live run of a number: it is live from the doing that begins it until its own caller parks or settles it
abbrev pub live_run : List Doing → ℕ → Run
live_run [] run = NoRun
live_run (doing ∷ past) run = run_after doing run (live_run past run)

-- the flight of a run that is live
abbrev pub flights_in : Run → List Flight
flights_in NoRun = []
flights_in (Flies flight) = flight ∷ []

-- the live runs whose numbers go up to this one, in the order of their numbers
abbrev pub live_up_to : List Doing → ℕ → List Flight
live_up_to past zero = []
live_up_to past (suc number) = live_up_to past number ++ flights_in (live_run past (suc number))

-- the live runs, in the order in which they began: a run has the number of the place where it begins
abbrev pub live_runs : List Doing → List Flight
live_runs past = live_up_to past (length past)

-- how many runs a doing begins
abbrev pub runs_begun : Doing → ℕ
runs_begun Leaves = 0
runs_begun (Puts intent status) = 0
runs_begun (Edits intent status) = 0
runs_begun (Begins cause intent flight) = 1
runs_begun (Resumes intent flight) = 1
runs_begun (Parks intent flight) = 0
runs_begun (Settles intent flight capture ruling) = 0

-- how many runs a doing ends
abbrev pub runs_ended : Doing → ℕ
runs_ended Leaves = 0
runs_ended (Puts intent status) = 0
runs_ended (Edits intent status) = 0
runs_ended (Begins cause intent flight) = 0
runs_ended (Resumes intent flight) = 0
runs_ended (Parks intent flight) = 1
runs_ended (Settles intent flight capture ruling) = 1
