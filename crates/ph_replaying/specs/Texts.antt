-- What asks for a replay, and what it writes.
use Rattle.std.specs.Prelude.{ℕ, Bool, false, bytes_eq, List, [], ◌∷◌, ◌++◌, codes}
use Rattle.std.specs.Fmt.{decimal}
use Rattle.ph_drill.specs.Summary.{summary_of}
use Rattle.ph_lines.specs.Fields.{line_text}
use Rattle.ph_history.specs.Text.{History}
use Rattle.ph_replay.specs.Lines.{replies_text}
use Rattle.ph_replay.specs.Told.{told_of}

-- the words are `replay` alone
abbrev pub is_replay : List (List ℕ) → Bool
is_replay [] = false
is_replay (word ∷ []) = bytes_eq word (codes "replay")
is_replay (word ∷ more ∷ words) = false

-- what is told of a history: a line for each of its replies, and behind them its summary
unfoldable pub replay_text : History → List ℕ
replay_text history = replies_text (told_of history.setup history.entries) ++ summary_of history.setup history.entries

-- the line that names the first line at fault
unfoldable pub refusal : ℕ → List ℕ
refusal at = line_text (codes "line" ∷ decimal at ∷ [])
