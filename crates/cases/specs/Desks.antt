-- Tickets in hand.
use Rattle.std.specs.Prelude.{◌≢◌, List, [], ◌∷◌}
use Rattle.ph_attempts.specs.declared.flights.Flight.{Flight}
use Rattle.ph_book.specs.declared.setup.Setup.{Setup}
use Rattle.ph_book.specs.declared.acts.Entry.{Entry}
use Rattle.ph_book.specs.State.{BookState}
use Rattle.ph_book.specs.Tickets.{Holds}

-- a run is none of these
abbrev pub IsApart : Flight → List Flight → Type 0
IsApart ticket [] = Unit {0}
IsApart ticket (other ∷ tickets) = (ticket.run ≢ other.run) × IsApart ticket tickets

-- each ticket is that of a live run of caller 0, and each is of another run
abbrev pub AreHeld : Setup → List Entry → List Flight → Type 0
AreHeld setup history [] = Unit {0}
AreHeld setup history (ticket ∷ tickets) = Holds setup history 0 ticket × (IsApart ticket tickets × AreHeld setup history tickets)

-- a book, and the tickets in hand
pub record DeskState : Type 0 where
  pub book : BookState
  pub tickets : List Flight
