-- What fetching the next item of a session does.
use Rattle.std.specs.Prelude.{◌≡◌, ℕ, ◌⊎◌, Bool, true, false, List, [], ◌∷◌}
use Rattle.ph_io.specs.Told.{SourceState}
use Rattle.ph_io.specs.Reads.{Moves, EndsAfter, FailsAfter}
use Rattle.ph_http.specs.declared.message.Raw.{Raw}
use Rattle.ph_http.specs.Items.{Item, Continue, Request, Close, Cut, End, Wants, Has, first}
use Rattle.ph_http.specs.Talk.{Leads}
use Rattle.ph_http.specs.TalkState.{TalkState, grown}
use Rattle.ph_conn.specs.declared.reads.Fetched.{Fetched}
use Rattle.ph_conn.specs.declared.reads.Fetched.TheVariants as fetched

-- the items that a request is, with a Continue before it or not
abbrev pub request_items : Raw → Bool → List Item
request_items raw false = Request raw ∷ []
request_items raw true = Continue ∷ Request raw ∷ []

-- the talk, with no more bytes to follow
abbrev pub told_end : TalkState → TalkState
told_end talk = record talk { ended = true }

-- these bytes were read for the answer
abbrev pub ReadsFor : Fetched → SourceState → SourceState → List ℕ → Type 0
ReadsFor (fetched.Request raw continues) old new bytes = Moves old new bytes
ReadsFor (fetched.Close status) old new bytes = Moves old new bytes
ReadsFor fetched.End old new bytes = EndsAfter old new bytes
ReadsFor fetched.Cut old new bytes = EndsAfter old new bytes
ReadsFor fetched.ReadFault old new bytes = FailsAfter old new bytes
ReadsFor fetched.NoMemory old new bytes = Moves old new bytes ⊎ EndsAfter old new bytes

-- the answer is what comes first of this talk, and the talk goes on as the new one
abbrev pub ItemIs : TalkState → Fetched → TalkState → Type 0
ItemIs talk (fetched.Request raw continues) new = Leads talk (request_items raw continues) new × (new.ended ≡ false)
ItemIs talk (fetched.Close status) new = first talk ≡ Has (Close status) talk
ItemIs talk fetched.End new = first (told_end talk) ≡ Has End (told_end talk)
ItemIs talk fetched.Cut new = first (told_end talk) ≡ Has Cut (told_end talk)
ItemIs talk fetched.ReadFault new = first talk ≡ Wants
ItemIs talk fetched.NoMemory new = Unit {0}

-- these bytes were read, and the answer is what then comes first of the talk
pub record Fetches (old new : TalkState) (answer : Fetched) (source0 source1 : SourceState) : Type 0 where
  pub bytes : List ℕ
  pub read : ReadsFor answer source0 source1 bytes
  pub item : ItemIs (grown old bytes false) answer new

-- the answer is the request that comes first of the talk
abbrev pub RequestIs : TalkState → TalkState → Fetched → Type 0
RequestIs old new (fetched.Request raw continues) = (continues ≡ true) × (first old ≡ Has (Request raw) new) × (new.ended ≡ old.ended)
RequestIs old new fetched.NoMemory = Unit {0}
RequestIs old new (fetched.Close status) = ⊥
RequestIs old new fetched.End = ⊥
RequestIs old new fetched.Cut = ⊥
RequestIs old new fetched.ReadFault = ⊥

-- the answer is the end that comes first of the talk
abbrev pub EndIs : TalkState → Fetched → Type 0
EndIs talk fetched.End = first talk ≡ Has End talk
EndIs talk fetched.Cut = first talk ≡ Has Cut talk
EndIs talk fetched.NoMemory = Unit {0}
EndIs talk (fetched.Request raw continues) = ⊥
EndIs talk (fetched.Close status) = ⊥
EndIs talk fetched.ReadFault = ⊥
