-- Runs: which are live, and whose.
use Rattle.std.specs.Prelude.{◌≡◌, ℕ, ◌==◌, if◌then◌else◌, List, Option, Some, None}
use Rattle.ph_attempts.specs.declared.flights.Flight.{Flight}
use Rattle.ph_doings.specs.Doings.{Doing}
use Rattle.ph_doings.specs.Runs.{Run, NoRun, Flies, live_run}

-- a run, where it is live and of this caller
abbrev pub if_own : ℕ → Run → Option Flight
if_own caller NoRun = None
if_own caller (Flies flight) = if flight.caller == caller then Some flight else None

-- the live run of a caller with a number
abbrev pub own_run : List Doing → ℕ → ℕ → Option Flight
own_run past caller run = if_own caller (live_run past run)

-- a live run of this caller has the number
abbrev pub IsLive : List Doing → ℕ → ℕ → Type 0
IsLive past caller run = (flight : Flight) × (own_run past caller run ≡ Some flight)
