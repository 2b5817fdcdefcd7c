-- What an object says of an entry and of an act, whose history is one of a book.
use Rattle.std.specs.Prelude.{ℕ, ◌+◌, ◌^◌, ◌<◌, List, [], ◌∷◌, ◌++◌, length}
use Rattle.ph_book.specs.declared.setup.Setup.{Setup}
use Rattle.ph_book.specs.declared.acts.Act.{Act}
use Rattle.ph_book.specs.declared.acts.Answer.{Answer}
use Rattle.ph_book.specs.declared.acts.Entry.{Entry}
use Rattle.ph_book.specs.Answers.{HasStatus, IsAnswerTo, Says}
use Rattle.ph_book.specs.Entries.{IsWithinClock, deed_of}
use Rattle.ph_book.specs.History.{said_to}
use Rattle.ph_book.specs.Legal.{IsLegal}
use Rattle.ph_book.specs.Tickets.{HandsOut, SpendsOwn}

-- the answer to the entry that comes after a history: it says what is said to it there, it is one to a deed of its kind, a reply has a status that replies are written with, and a ticket is that of a live run of the entry's caller
pub record Answers (setup : Setup) (history : List Entry) (entry : Entry) (answer : Answer) : Type 0 where
  pub says : Says (length history + 1) entry.caller (said_to setup history entry) answer
  pub kind : IsAnswerTo entry.deed answer
  pub status : HasStatus answer
  pub live : HandsOut setup (history ++ entry ∷ []) entry.caller answer

-- after a history a caller may do this: it ends a live run of its own by its own ticket, where it ends one, and a moment is one that a clock shows
pub record Allows (setup : Setup) (history : List Entry) (caller : ℕ) (act : Act) : Type 0 where
  pub small : caller < 2 ^ 62
  pub own : SpendsOwn setup history caller act
  pub clock : IsWithinClock (deed_of act)

-- the history of a book: it is legal, and its setup has room for fewer entries than a setup of its type may have
pub record IsLawful (setup : Setup) (history : List Entry) : Type 0 where
  pub legal : IsLegal setup history
  pub few : setup.entries < 2 ^ 32

-- the setup and the entries of a book are its own
abbrev pub same_setup : Setup → Setup
same_setup setup = setup

abbrev pub itself : Entry → Entry
itself entry = entry

-- what no lock has seen yet
abbrev pub no_setup : Setup
no_setup = record { key = []; opened = 0; entries = 0; weight = 0 }
