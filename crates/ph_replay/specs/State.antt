-- What contracts see of a history that was entered anew.
use Rattle.std.specs.Prelude.{◌≡◌, List}
use Rattle.ph_attempts.specs.declared.flights.Flight.{Flight}
use Rattle.ph_book.specs.declared.acts.Entry.{Entry}
use Rattle.ph_book.specs.declared.setup.Setup.{Setup}
use Rattle.ph_book.specs.State.{BookState}
use Rattle.ph_replay.specs.declared.told.Told.{Told}
use Rattle.ph_replay.specs.Tickets.{AreKept}
use Rattle.ph_replay.specs.Told.{told_of}

-- a book, what was replied, and the tickets in hand
pub record ReplayState : Type 0 where
  pub book : BookState
  pub replies : List Told
  pub tickets : List Flight

-- all replies of the history are told, and the tickets are those of its live runs
pub record IsReplay (setup : Setup) (history : List Entry) (replies : List Told) (tickets : List Flight) : Type 0 where
  pub told : replies ≡ told_of setup history
  pub kept : AreKept setup history tickets
