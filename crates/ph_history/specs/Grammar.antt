-- Which bytes are a history's text, and where others leave the form.
use Rattle.std.specs.Prelude.{◌≡◌, ℕ, ◌+◌, ◌^◌, ◌<◌, ◌⊎◌, List, [], ◌∷◌, ◌++◌, length, map, Result, Ok, Err}
use Rattle.std.specs.Global.{Vec}
use Rattle.ph_io.specs.Told.{SourceState}
use Rattle.ph_io.specs.Reads.{Moves, EndsAfter, FailsAfter}
use Rattle.ph_book.specs.declared.acts.Entry.{Entry}
use Rattle.ph_book.specs.declared.setup.Setup.{Setup}
use Rattle.ph_lines.specs.Lines.{AreShort, Has, Leads, Long, Wants, first}
use Rattle.ph_history.specs.Reading.{AllFit, FitsHistory, FitsSetup}
use Rattle.ph_history.specs.Text.{History, entry_line, header_line, history_lines, history_text, setup_line}
use Rattle.ph_history.specs.declared.parts.Part.{Part}
use Rattle.ph_history.specs.declared.parts.Part.TheVariants as part
use Rattle.ph_history.specs.declared.faults.HistoryFault.{HistoryFault}
use Rattle.ph_history.specs.declared.faults.HistoryFault.TheVariants as fault

-- the history of a setup and of entries
abbrev pub told_by : Setup → List Entry → History
told_by setup entries = record { setup = setup; entries = entries }

-- some history's text begins with these lines
pub record CanBegin (lines : List (List ℕ)) : Type 0 where
  pub history : History
  pub more : List (List ℕ)
  pub text : lines ++ more ≡ history_lines history
  pub fits : FitsHistory history

-- these lines are a whole history's
pub record AreWhole (lines : List (List ℕ)) : Type 0 where
  pub history : History
  pub text : lines ≡ history_lines history

-- the bytes are the text of this history: its lines, none longer than 300,000 bytes, each with its LF, and nothing more
pub record IsText (bytes : List ℕ) (history : History) : Type 0 where
  pub leads : Leads bytes (history_lines history) []
  pub fits : FitsHistory history

-- behind these lines, what follows is no line with which a history's text goes on: a line that is too long, another line, or bytes behind the last line
abbrev pub LeavesForm : List (List ℕ) → List ℕ → Type 0
LeavesForm lines rest =
    (first rest ≡ Long)
    ⊎ ((line : List ℕ) × (more : List ℕ) × (first rest ≡ Has line more) × (CanBegin (lines ++ line ∷ []) → ⊥))
    ⊎ (AreWhole lines × (rest ≡ [] → ⊥))

-- this line is the first outside the form: the lines before it begin some history's text, and with it none does
pub record IsBadAt (bytes : List ℕ) (at : ℕ) : Type 0 where
  pub lines : List (List ℕ)
  pub rest : List ℕ
  pub leads : Leads bytes lines rest
  pub place : at ≡ length lines + 1
  pub begins : CanBegin lines
  pub leaves : LeavesForm lines rest

-- the bytes end before the last line's LF: all whole lines begin some history's text, and they are none's whole text
pub record IsCut (bytes : List ℕ) : Type 0 where
  pub lines : List (List ℕ)
  pub rest : List ℕ
  pub leads : Leads bytes lines rest
  pub begins : CanBegin lines
  pub open_end : first rest ≡ Wants
  pub not_whole : AreWhole lines → ⊥

-- what reading answers, of the bytes that it read: a history whose text they are, to their end; the first line outside the form; that they are cut; or that a read failed behind them
abbrev pub Says : Result (Setup × Vec Entry) HistoryFault → SourceState → SourceState → List ℕ → Type 0
Says (Ok read) old new bytes = EndsAfter old new bytes × IsText bytes (told_by read.0 read.1.items)
Says (Err (fault.BadLine at)) old new bytes = (Moves old new bytes ⊎ EndsAfter old new bytes) × IsBadAt bytes at
Says (Err (fault.Illegal at)) old new bytes = ⊥
Says (Err fault.Cut) old new bytes = EndsAfter old new bytes × IsCut bytes
Says (Err fault.ReadFault) old new bytes = FailsAfter old new bytes
Says (Err fault.NoMemory) old new bytes = Unit {0}

-- some bytes were read, and this was answered of them
pub record Reads (result : Result (Setup × Vec Entry) HistoryFault) (old new : SourceState) : Type 0 where
  pub bytes : List ℕ
  pub says : Says result old new bytes

-- this history was read, or none for a fault of the source or want of memory
abbrev pub Finds : History → Result (Setup × Vec Entry) HistoryFault → Type 0
Finds history (Ok read) = told_by read.0 read.1.items ≡ history
Finds history (Err (fault.BadLine at)) = ⊥
Finds history (Err (fault.Illegal at)) = ⊥
Finds history (Err fault.Cut) = ⊥
Finds history (Err fault.ReadFault) = Unit {0}
Finds history (Err fault.NoMemory) = Unit {0}

-- the bytes are what is written of a history whose lines are short, and of which its types say what they say
pub record IsWritten (bytes : List ℕ) (history : History) : Type 0 where
  pub text : bytes ≡ history_text history
  pub short : AreShort (history_lines history)
  pub fits : FitsHistory history
  pub count : length history.entries < 2 ^ 64

-- the lines that give a part of a history
abbrev pub part_lines : Part → List (List ℕ)
part_lines part.Nothing = []
part_lines part.Header = header_line ∷ []
part_lines (part.Open setup entries) = header_line ∷ setup_line setup ∷ map entry_line entries.items
part_lines (part.Whole setup entries) = history_lines (told_by setup entries.items)

-- what its types say of a part of a history
abbrev pub FitsPart : Part → Type 0
FitsPart part.Nothing = Unit {0}
FitsPart part.Header = Unit {0}
FitsPart (part.Open setup entries) = FitsSetup setup × AllFit entries.items
FitsPart (part.Whole setup entries) = FitsSetup setup × AllFit entries.items

-- what the end of the bytes means behind a part of a history and these bytes, in the place of the line of this number
abbrev pub EndIs : Part → List ℕ → ℕ → Result (Setup × Vec Entry) HistoryFault → Type 0
EndIs (part.Whole setup entries) unread at (Ok read) = (unread ≡ []) × (read ≡ (setup, entries))
EndIs (part.Whole setup entries) unread at (Err why) = (unread ≡ [] → ⊥) × (why ≡ fault.BadLine at)
EndIs part.Nothing unread at result = result ≡ Err fault.Cut
EndIs part.Header unread at result = result ≡ Err fault.Cut
EndIs (part.Open setup entries) unread at result = result ≡ Err fault.Cut
