-- Tickets: which of them an act may spend.
use Rattle.std.specs.Prelude.{◌≡◌, ℕ, List, Some}
use Rattle.ph_attempts.specs.declared.flights.Flight.{Flight}
use Rattle.ph_book.specs.declared.setup.Setup.{Setup}
use Rattle.ph_book.specs.declared.acts.Act.{Act}
use Rattle.ph_book.specs.declared.acts.Act.TheVariants as act
use Rattle.ph_book.specs.declared.acts.Answer.{Answer}
use Rattle.ph_book.specs.declared.acts.Answer.TheVariants as answer
use Rattle.ph_book.specs.declared.acts.Entry.{Entry}
use Rattle.ph_book.specs.History.{doings_of}
use Rattle.ph_book.specs.Runs.{own_run}

-- the ticket is that of a live run of this caller
unfoldable pub Holds : Setup → List Entry → ℕ → Flight → Type 0
Holds setup history caller ticket = own_run (doings_of setup history) caller ticket.run ≡ Some ticket

-- the act ends a live run of this caller by its own ticket, where it ends one
abbrev pub SpendsOwn : Setup → List Entry → ℕ → Act → Type 0
SpendsOwn setup history caller (act.Call raw) = Unit {0}
SpendsOwn setup history caller (act.Finish ticket ruling) = Holds setup history caller ticket
SpendsOwn setup history caller (act.Park ticket why) = Holds setup history caller ticket
SpendsOwn setup history caller act.Resume = Unit {0}
SpendsOwn setup history caller (act.Tick moment) = Unit {0}

-- the ticket of an answer is that of a live run of this caller
abbrev pub HandsOut : Setup → List Entry → ℕ → Answer → Type 0
HandsOut setup history caller (answer.Reply reply) = Unit {0}
HandsOut setup history caller (answer.Wait ticket) = Holds setup history caller ticket
HandsOut setup history caller answer.Done = Unit {0}
