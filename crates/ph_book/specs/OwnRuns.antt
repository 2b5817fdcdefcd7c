-- What an entry does to the live runs of each caller.
use Rattle.std.specs.Prelude.{◌≡◌, ◌≢◌, ℕ, ◌+◌, ◌==◌, if◌then◌else◌, List, [], ◌∷◌, ◌++◌, length, Option, Some, None}
use Rattle.ph_attempts.specs.declared.flights.Flight.{Flight}
use Rattle.ph_book.specs.declared.setup.Setup.{Setup}
use Rattle.ph_book.specs.declared.acts.Deed.{Deed}
use Rattle.ph_book.specs.declared.acts.Deed.TheVariants as deed
use Rattle.ph_book.specs.declared.acts.Entry.{Entry}
use Rattle.ph_book.specs.History.{doings_of, said_to}
use Rattle.ph_book.specs.Replies.{Said, Replies, Waits, Silence}
use Rattle.ph_book.specs.Runs.{own_run}

-- a caller's live run of a number, where it had this one: after a call of its own at a place, or the taking up of an attempt, to which this is said. Where it waits, the run of its place is live
abbrev pub after_call : ℕ → ℕ → Said → ℕ → Option Flight → Option Flight
after_call caller place (Replies reply) run had = had
after_call caller place (Waits order) run had =
    if run == place then Some (record { caller = caller; run = place; order = order }) else had
after_call caller place Silence run had = had

-- after it ended the run of a number: that isn't live any more
abbrev pub after_end : ℕ → ℕ → Option Flight → Option Flight
after_end number run had = if run == number then None else had

-- after a deed of its own
abbrev pub after_deed : ℕ → ℕ → Deed → Said → ℕ → Option Flight → Option Flight
after_deed caller place (deed.Call raw) said run had = after_call caller place said run had
after_deed caller place (deed.Finish number ruling) said run had = after_end number run had
after_deed caller place (deed.Park number why) said run had = after_end number run had
after_deed caller place deed.Resume said run had = after_call caller place said run had
after_deed caller place (deed.Tick moment) said run had = had

-- the live runs of a caller after a history
abbrev pub own_of : Setup → List Entry → ℕ → ℕ → Option Flight
own_of setup history caller run = own_run (doings_of setup history) caller run

-- the live runs after an entry: those of its caller by its deed, and those of others as they were
pub record RunsAfter (setup : Setup) (history : List Entry) (entry : Entry) : Type 0 where
  pub own : (run : ℕ) → own_of setup (history ++ entry ∷ []) entry.caller run
      ≡ after_deed entry.caller (length history + 1) entry.deed (said_to setup history entry) run (own_of setup history entry.caller run)
  pub others : (caller run : ℕ) → entry.caller ≢ caller → own_of setup (history ++ entry ∷ []) caller run ≡ own_of setup history caller run

-- a caller has no live run after a history that it hadn't after another
abbrev pub NoMoreOwn : Setup → ℕ → List Entry → List Entry → Type 0
NoMoreOwn setup caller old new = (run : ℕ) (flight : Flight) → own_of setup new caller run ≡ Some flight → own_of setup old caller run ≡ Some flight
