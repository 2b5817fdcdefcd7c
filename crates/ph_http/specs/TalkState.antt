-- What contracts see of a talk.
use Rattle.std.specs.Prelude.{ℕ, Bool, false, List, ◌++◌}

-- the bytes that are still unread, whether no more follow them, and whether the 100 line of the request that they begin with was given
pub record TalkState : Type 0 where
  pub unread : List ℕ
  pub ended : Bool
  pub continued : Bool

-- a talk of which nothing was read yet
abbrev pub talk_of : List ℕ → Bool → TalkState
talk_of bytes ended = record { unread = bytes; ended = ended; continued = false }

-- the talk with these bytes behind its own, and its end told or not
abbrev pub grown : TalkState → List ℕ → Bool → TalkState
grown talk more ended = record talk { unread = talk.unread ++ more; ended = ended }
