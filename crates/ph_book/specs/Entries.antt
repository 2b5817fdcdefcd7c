-- Entries of a history.
use Rattle.std.specs.Prelude.{ℕ, ◌≤◌}
use Rattle.ph_base.specs.declared.acquirer.Ruling.{Ruling}
use Rattle.ph_base.specs.declared.acquirer.Why.{Why}
use Rattle.ph_attempts.specs.declared.flights.Flight.{Flight}
use Rattle.ph_items.specs.Clocks.{clock_limit}
use Rattle.ph_http.specs.declared.message.Raw.{Raw}
use Rattle.ph_book.specs.declared.acts.Act.{Act}
use Rattle.ph_book.specs.declared.acts.Act.TheVariants as act
use Rattle.ph_book.specs.declared.acts.Deed.{Deed}
use Rattle.ph_book.specs.declared.acts.Deed.TheVariants as deed
use Rattle.ph_book.specs.declared.acts.Entry.{Entry}

-- what stands of an act in the history: of a ticket, the number of its run
abbrev pub deed_of : Act → Deed
deed_of (act.Call raw) = deed.Call raw
deed_of (act.Finish ticket ruling) = deed.Finish ticket.run ruling
deed_of (act.Park ticket why) = deed.Park ticket.run why
deed_of act.Resume = deed.Resume
deed_of (act.Tick moment) = deed.Tick moment

-- the entry of an act of a caller
abbrev pub entry_of : ℕ → Act → Entry
entry_of caller act = record { caller = caller; deed = deed_of act }

-- the entry of a request
abbrev pub call_entry : ℕ → Raw → Entry
call_entry caller raw = record { caller = caller; deed = deed.Call raw }

-- the entry of a ruling on the order of a ticket's run
abbrev pub finish_entry : ℕ → Flight → Ruling → Entry
finish_entry caller ticket ruling = record { caller = caller; deed = deed.Finish ticket.run ruling }

-- the entry of a ticket's run that is given up
abbrev pub park_entry : ℕ → Flight → Why → Entry
park_entry caller ticket why = record { caller = caller; deed = deed.Park ticket.run why }

-- the entry by which the attempt that waits longest is taken up again
abbrev pub resume_entry : ℕ → Entry
resume_entry caller = record { caller = caller; deed = deed.Resume }

-- the entry of a moment of the clock
abbrev pub tick_entry : ℕ → ℕ → Entry
tick_entry caller moment = record { caller = caller; deed = deed.Tick moment }

-- a moment of the clock is one that a clock shows
abbrev pub IsWithinClock : Deed → Type 0
IsWithinClock (deed.Call raw) = Unit {0}
IsWithinClock (deed.Finish run ruling) = Unit {0}
IsWithinClock (deed.Park run why) = Unit {0}
IsWithinClock deed.Resume = Unit {0}
IsWithinClock (deed.Tick moment) = moment ≤ clock_limit

-- an entry of this deed may take an attempt up again: a call, under its key, and the act that does so
abbrev pub TakesUp : Deed → Type 0
TakesUp (deed.Call raw) = Unit {0}
TakesUp (deed.Finish run ruling) = ⊥
TakesUp (deed.Park run why) = ⊥
TakesUp deed.Resume = Unit {0}
TakesUp (deed.Tick moment) = ⊥

-- the act is never refused: a park has its room and its memory from the beginning of its run
abbrev pub IsGranted : Act → Type 0
IsGranted (act.Call raw) = ⊥
IsGranted (act.Finish ticket ruling) = ⊥
IsGranted (act.Park ticket why) = Unit {0}
IsGranted act.Resume = ⊥
IsGranted (act.Tick moment) = ⊥
