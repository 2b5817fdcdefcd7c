-- A line as it is written: word by word, each with what comes behind it.
use Rattle.std.specs.Fmt.{signed_decimal}
use Rattle.std.proofs.Common.{◌≡◌, ℕ, ℤ, List, ◌++◌, codes, decimal, Result, sym, ap, ◌∙◌, append_assoc, subst}
use Rattle.std.specs.Bool.{⊤}
use Rattle.ph_io.specs.Told.{SinkState}
use Rattle.ph_io.specs.declared.sink.WriteFailed.{WriteFailed}
use Rattle.ph_drill.specs.Lines.{Writes, balance_line, count_line}

-- a word and what comes behind it
abbrev pub word_and : List ℕ → List ℕ → List ℕ
word_and word behind = word ++ behind

word_more : (before word behind : List ℕ) → before ++ word_and word behind ≡ before ++ word ++ behind
word_more before word behind = sym (append_assoc before word behind)

pub count_words : (word : List ℕ) (number : ℕ) → word_and word (codes " ") ++ word_and (decimal number) (codes "\n") ≡ count_line word number
count_words word number = word_more (word ++ codes " ") (decimal number) (codes "\n")

pub balance_words : (account code : List ℕ) (available pending : ℤ)
    → word_and (codes "balance") (codes " ") ++ word_and account (codes " ") ++ word_and code (codes " ") ++ word_and (signed_decimal available) (codes " ")
    ++ word_and (signed_decimal pending) (codes "\n")
    ≡ balance_line account code available pending
balance_words account code available pending =
    let third : List ℕ = word_and (signed_decimal available) (codes " ") in
    let last : List ℕ = word_and (signed_decimal pending) (codes "\n") in
    let to_account : List ℕ = codes "balance " ++ account ++ codes " " in
    let to_code : List ℕ = to_account ++ code ++ codes " " in
    ap (λ (front : List ℕ). front ++ word_and code (codes " ") ++ third ++ last) (word_more (codes "balance ") account (codes " "))
    ∙ ap (λ (front : List ℕ). front ++ third ++ last) (word_more to_account code (codes " "))
    ∙ ap (λ (front : List ℕ). front ++ last) (word_more to_code (signed_decimal available) (codes " "))
    ∙ word_more (to_code ++ signed_decimal available ++ codes " ") (signed_decimal pending) (codes "\n")

-- the same of a text that is said otherwise
pub writes_as : (old new : SinkState) (text other : List ℕ) (result : Result ⊤ WriteFailed) → text ≡ other → Writes old new text result
    → Writes old new other result
writes_as old new text other result same wrote = subst (λ t. Writes old new t result) same wrote
