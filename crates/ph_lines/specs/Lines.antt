-- The lines of a list of bytes, and what reading the next one answers.
use Rattle.std.specs.Prelude.{◌≡◌, ℕ, ◌+◌, ◌≤◌, ◌==◌, Bool, nat_lt, List, [], ◌∷◌, ◌++◌, length, take, drop, if◌then◌else◌}
use Rattle.std.specs.List.{position_or_len}
use Rattle.ph_io.specs.Told.{SourceState}
use Rattle.ph_io.specs.Reads.{Moves, EndsAfter, FailsAfter}
use Rattle.ph_lines.specs.declared.splits.Front.{Front}
use Rattle.ph_lines.specs.declared.splits.Front.TheVariants as front
use Rattle.ph_lines.specs.declared.sources.LineRead.{LineRead}
use Rattle.ph_lines.specs.declared.sources.LineRead.TheVariants as got

abbrev pub is_lf : ℕ → Bool
is_lf b = b == 10

-- what bytes begin with: less than a line, a line that is too long, or a line, with the bytes behind its LF
pub data First : Type 0 where
  Wants : First
  Long : First
  Has : List ℕ → List ℕ → First

-- the same, where the first LF stands behind so many bytes, or none among them all
abbrev pub first_at : ℕ → List ℕ → First
first_at n bytes =
    if nat_lt 300000 n then Long
    else if n == length bytes then Wants
    else Has (take n bytes) (drop (n + 1) bytes)

-- what bytes begin with: a line has at most 300,000 bytes before its LF
unfoldable pub first : List ℕ → First
first bytes = first_at (position_or_len is_lf bytes) bytes

-- the bytes begin with these lines, and these bytes follow
abbrev pub Leads : List ℕ → List (List ℕ) → List ℕ → Type 0
Leads bytes [] rest = bytes ≡ rest
Leads bytes (line ∷ lines) rest = (middle : List ℕ) × (first bytes ≡ Has line middle) × Leads middle lines rest

-- no line is longer than 300,000 bytes
abbrev pub AreShort : List (List ℕ) → Type 0
AreShort [] = Unit {0}
AreShort (line ∷ lines) = (length line ≤ 300000) × AreShort lines

-- the front that was taken off is what the bytes begin with
abbrev pub FrontIs : List ℕ → List ℕ → Front → Type 0
FrontIs old new (front.Line line) = first old ≡ Has line new
FrontIs old new front.Long = (first old ≡ Long) × (new ≡ old)
FrontIs old new front.Wants = (first old ≡ Wants) × (new ≡ old)

-- these bytes were read for the answer
abbrev pub ReadsFor : LineRead → SourceState → SourceState → List ℕ → Type 0
ReadsFor (got.Line line) old new bytes = Moves old new bytes
ReadsFor got.Long old new bytes = Moves old new bytes
ReadsFor got.End old new bytes = EndsAfter old new bytes
ReadsFor got.ReadFault old new bytes = FailsAfter old new bytes
ReadsFor got.NoMemory old new bytes = Moves old new bytes

-- the answer is what these bytes begin with, and those are left
abbrev pub ItemIs : List ℕ → LineRead → List ℕ → Type 0
ItemIs bytes (got.Line line) new = first bytes ≡ Has line new
ItemIs bytes got.Long new = first bytes ≡ Long
ItemIs bytes got.End new = (first bytes ≡ Wants) × (new ≡ bytes)
ItemIs bytes got.ReadFault new = first bytes ≡ Wants
ItemIs bytes got.NoMemory new = Unit {0}

-- some bytes were read behind those that were unread, and the answer is what they all begin with
pub record Gets (old new : List ℕ) (answer : LineRead) (source0 source1 : SourceState) : Type 0 where
  pub bytes : List ℕ
  pub read : ReadsFor answer source0 source1 bytes
  pub item : ItemIs (old ++ bytes) answer new
