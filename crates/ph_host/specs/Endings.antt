-- What a server writes at its end.
use Rattle.std.specs.Prelude.{ℕ, Bool, true, false, List, ◌++◌, drop}
use Rattle.ph_book.specs.declared.acts.Entry.{Entry}
use Rattle.ph_book.specs.declared.setup.Setup.{Setup}
use Rattle.ph_drill.specs.Summary.{summary_of}
use Rattle.ph_history.specs.Grammar.{told_by}
use Rattle.ph_history.specs.Text.{history_text}
use Rattle.ph_host.specs.Options.{asks_history}

-- the words ask for the history, behind the command
abbrev pub wants_history : List (List ℕ) → Bool
wants_history words = asks_history (drop 1 words)

-- the text of the history, and the summary behind it
abbrev pub told_whole : Setup → List Entry → List ℕ
told_whole setup history = history_text (told_by setup history) ++ summary_of setup history

-- what is written: the text of the history, where it is asked for, and then the summary
abbrev pub end_text : Bool → Setup → List Entry → List ℕ
end_text true setup history = told_whole setup history
end_text false setup history = summary_of setup history
