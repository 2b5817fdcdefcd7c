-- The head of a request, as `httparse` in its default configuration with room for 64 headers reads it.
use Rattle.std.specs.Prelude.{ℕ, ◌≤◌, List, [], length}
use Rattle.httparse.specs.Grammar.{RequestHead, ReadsRequest}

-- the bytes are exactly one head, and it has at most 64 headers
pub record IsOneHead (bytes : List ℕ) (head : RequestHead) : Type 0 where
  pub reads : ReadsRequest bytes head []
  pub room : length head.fields ≤ 64

-- the bytes are no such head
abbrev pub IsNoHead : List ℕ → Type 0
IsNoHead bytes = (head : RequestHead) → ¬ (IsOneHead bytes head)
