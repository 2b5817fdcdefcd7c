-- Lines of words that a blank parts.
use Rattle.std.specs.Prelude.{ℕ, ⊤, ℤ, List, ◌++◌, codes, decimal, Result, Ok, Err}
use Rattle.std.specs.Fmt.{signed_decimal}
use Rattle.ph_io.specs.Told.{SinkState}
use Rattle.ph_io.specs.Writes.{Takes, TakesFront}
use Rattle.ph_io.specs.declared.sink.WriteFailed.{WriteFailed}

-- the text was written, or a front of it up to a write that failed
abbrev pub Writes : SinkState → SinkState → List ℕ → Result ⊤ WriteFailed → Type 0
Writes old new text (Ok done) = Takes old new text
Writes old new text (Err why) = TakesFront old new text

-- a line of a word and a number
abbrev pub count_line : List ℕ → ℕ → List ℕ
count_line word number = word ++ codes " " ++ decimal number ++ codes "\n"

-- the line of a balance: of which account, in which currency, and what is available and pending
abbrev pub balance_line : List ℕ → List ℕ → ℤ → ℤ → List ℕ
balance_line account code available pending =
    codes "balance " ++ account ++ codes " " ++ code ++ codes " " ++ signed_decimal available ++ codes " " ++ signed_decimal pending ++ codes "\n"
