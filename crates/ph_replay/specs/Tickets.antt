-- Tickets in hand.
use Rattle.std.specs.Prelude.{◌≡◌, ◌≢◌, ℕ, ◌^◌, ◌<◌, Bool, List, [], ◌∷◌, ◌++◌, if◌then◌else◌, Some, None}
use Rattle.std.specs.List.{find}
use Rattle.ph_attempts.specs.declared.flights.Flight.{Flight}
use Rattle.ph_doings.specs.Kept.{is_run}
use Rattle.ph_book.specs.declared.acts.Entry.{Entry}
use Rattle.ph_book.specs.declared.setup.Setup.{Setup}
use Rattle.ph_book.specs.Entries.{tick_entry}
use Rattle.ph_book.specs.Laws.{runs_of}
use Rattle.ph_book.specs.OwnRuns.{own_of}
use Rattle.ph_book.specs.Tickets.{Holds}

-- a run is none of these
abbrev pub IsApart : Flight → List Flight → Type 0
IsApart ticket [] = Unit {0}
IsApart ticket (other ∷ tickets) = (ticket.run ≢ other.run) × IsApart ticket tickets

-- each ticket is of another run
abbrev pub AreApart : List Flight → Type 0
AreApart [] = Unit {0}
AreApart (ticket ∷ tickets) = IsApart ticket tickets × AreApart tickets

-- each ticket's caller is one of those that callers may have
abbrev pub AreOfCallers : List Flight → Type 0
AreOfCallers [] = Unit {0}
AreOfCallers (ticket ∷ tickets) = (ticket.caller < 2 ^ 62) × AreOfCallers tickets

-- the tickets are those of the live runs of a history, in the order in which they began: each of another run, and of a caller that may be one
pub record AreKept (setup : Setup) (history : List Entry) (tickets : List Flight) : Type 0 where
  pub held : tickets ≡ runs_of setup history
  pub apart : AreApart tickets
  pub callers : AreOfCallers tickets

-- all but the first that passes
abbrev pub without_first : (Flight → Bool) → List Flight → List Flight
without_first passes [] = []
without_first passes (ticket ∷ tickets) = if passes ticket then tickets else ticket ∷ without_first passes tickets

-- the live runs of a history are found by their callers and numbers: what is found is the caller's, what isn't found isn't live, and a moment of the clock leaves them as they are
pub record AreFound (setup : Setup) (history : List Entry) : Type 0 where
  pub found : (caller run : ℕ) (ticket : Flight) → find (is_run caller run) (runs_of setup history) ≡ Some ticket
      → (ticket.run ≡ run) × (ticket.caller ≡ caller) × Holds setup history caller ticket
  pub others : (caller run : ℕ) → find (is_run caller run) (runs_of setup history) ≡ None → own_of setup history caller run ≡ None
  pub ticked : (caller moment : ℕ) → runs_of setup (history ++ tick_entry caller moment ∷ []) ≡ runs_of setup history
