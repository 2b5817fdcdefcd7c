-- What the command `replay` does.
use Rattle.std.specs.Prelude.{◌≡◌, ℕ, ◌⊎◌, List, Bool, true, false, Option, Some, None, Err}
use Rattle.ph_io.specs.Told.{SourceState, SinkState}
use Rattle.ph_io.specs.Reads.{EndsAfter}
use Rattle.ph_io.specs.Writes.{Takes, TakesFront}
use Rattle.ph_book.specs.Legal.{IsLegal}
use Rattle.ph_history.specs.Grammar.{IsBadAt, IsCut, IsText, Reads}
use Rattle.ph_history.specs.Text.{History}
use Rattle.ph_history.specs.declared.faults.HistoryFault.{HistoryFault}
use Rattle.ph_history.specs.declared.faults.HistoryFault.TheVariants as fault
use Rattle.ph_replay.specs.Legal.{IsIllegalAt, IsRefused}
use Rattle.ph_replaying.specs.Texts.{refusal, replay_text}

-- the text was written and the status is this; or a write failed behind a front of it, and the status is 4
abbrev pub Prints : SinkState → SinkState → List ℕ → ℕ → ℕ → Type 0
Prints old new text given status =
    (Takes old new text × (status ≡ given)) ⊎ (TakesFront old new text × (status ≡ 4))

-- the first line at fault is named, with the status 8; a text that is cut has the status 5, a read that failed 3, and want of memory 6, and none of these writes anything
abbrev pub Refuses : SinkState → SinkState → HistoryFault → ℕ → Type 0
Refuses old new (fault.BadLine at) status = Prints old new (refusal at) 8 status
Refuses old new (fault.Illegal at) status = Prints old new (refusal at) 8 status
Refuses old new fault.Cut status = (new ≡ old) × (status ≡ 5)
Refuses old new fault.ReadFault status = (new ≡ old) × (status ≡ 3)
Refuses old new fault.NoMemory status = (new ≡ old) × (status ≡ 6)

-- what an input comes to
pub data Outcome : Type 0 where
  -- a history, which is legal
  Whole : History → Outcome
  -- no history, or none that is legal
  Faulty : HistoryFault → Outcome

-- all that the input gave up to its end is the text of this history
pub record IsRead (old new : SourceState) (history : History) : Type 0 where
  pub bytes : List ℕ
  pub ended : EndsAfter old new bytes
  pub text : IsText bytes history

-- a history was read that isn't entered anew: its first line that isn't legal, or want of memory
pub record IsUnentered (old new : SourceState) (why : HistoryFault) : Type 0 where
  pub history : History
  pub read : IsRead old new history
  pub refused : IsRefused history.setup history.entries why

-- the input came to this: a legal history, whose text it gave; or a fault of what it gave, or of the history that it gave
abbrev pub Gives : SourceState → SourceState → Outcome → Type 0
Gives old new (Outcome.Whole history) = IsRead old new history × IsLegal history.setup history.entries
Gives old new (Outcome.Faulty why) = Reads (Err why) old new ⊎ IsUnentered old new why

-- what is written of it: all that is told of the history, with the status 0; or why there is none
abbrev pub Answers : SinkState → SinkState → Outcome → ℕ → Type 0
Answers old new (Outcome.Whole history) status = Prints old new (replay_text history) 0 status
Answers old new (Outcome.Faulty why) status = Refuses old new why status

-- what bytes come to: the text of a legal history; the first line outside the form; that they are cut; or the text of a history, and its first line that isn't legal
abbrev pub IsOf : List ℕ → Outcome → Type 0
IsOf bytes (Outcome.Whole history) = IsText bytes history × IsLegal history.setup history.entries
IsOf bytes (Outcome.Faulty (fault.BadLine at)) = IsBadAt bytes at
IsOf bytes (Outcome.Faulty (fault.Illegal at)) = (history : History) × IsText bytes history × IsIllegalAt history.setup history.entries at
IsOf bytes (Outcome.Faulty fault.Cut) = IsCut bytes
IsOf bytes (Outcome.Faulty fault.ReadFault) = ⊥
IsOf bytes (Outcome.Faulty fault.NoMemory) = ⊥

-- what is written of it, or nothing: where a read failed the status is 3, and where there was no memory 6
abbrev pub AnswersOrFails : SinkState → SinkState → Outcome → ℕ → Type 0
AnswersOrFails old new outcome status = Answers old new outcome status ⊎ ((new ≡ old) × ((status ≡ 3) ⊎ (status ≡ 6)))

-- the input was read to where it came to something, and that was written
pub record Replays (input0 input1 : SourceState) (output0 output1 : SinkState) (status : ℕ) : Type 0 where
  pub outcome : Outcome
  pub given : Gives input0 input1 outcome
  pub wrote : Answers output0 output1 outcome status

-- a replay was done with this status, where the words ask for one; else nothing was done
abbrev pub Does : Bool → SourceState → SourceState → SinkState → SinkState → Option ℕ → Type 0
Does true input0 input1 output0 output1 (Some status) = Replays input0 input1 output0 output1 status
Does true input0 input1 output0 output1 None = ⊥
Does false input0 input1 output0 output1 (Some status) = ⊥
Does false input0 input1 output0 output1 None = (input1 ≡ input0) × (output1 ≡ output0)
