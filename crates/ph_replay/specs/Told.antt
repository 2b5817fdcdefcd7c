-- What is told of the replies of a history.
use Rattle.std.specs.Prelude.{ℕ, ◌+◌, List, [], ◌∷◌, ◌++◌}
use Rattle.sha2.specs.Sha256.{sha256}
use Rattle.ph_book.specs.declared.acts.Entry.{Entry}
use Rattle.ph_book.specs.declared.setup.Setup.{Setup}
use Rattle.ph_book.specs.History.{Happening, past_of}
use Rattle.ph_book.specs.Replies.{Said, Replies, Waits, Silence}
use Rattle.ph_replay.specs.declared.told.Told.{Told}

-- what is told of what is said to the entry of a place: of a reply, the place, its status and the SHA-256 of its body
abbrev pub told_at : ℕ → Said → List Told
told_at place (Replies reply) = record { place = place; status = reply.status; digest = sha256 reply.body } ∷ []
told_at place (Waits order) = []
told_at place Silence = []

-- what is told of what happened, the first of it at a place
abbrev pub told_from : ℕ → List Happening → List Told
told_from place [] = []
told_from place (h ∷ past) = told_at place h.said ++ told_from (place + 1) past

-- what is told of a history: of each reply, in the order of its entries
unfoldable pub told_of : Setup → List Entry → List Told
told_of setup history = told_from 1 (past_of setup history)
