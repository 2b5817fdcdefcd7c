-- What the answer of a far end says.
use Rattle.std.specs.Prelude.{◌≡◌, ℕ, ◌≤◌, ◌⊎◌, ◌&&◌, Bool, nat_le, if◌then◌else◌, List, ◌++◌, length, take}
use Rattle.httparse.specs.Grammar.{ResponseHead, ReadsResponse, status_code}
use Rattle.ph_io.specs.Told.{SourceState}
use Rattle.ph_io.specs.Reads.{Moves, EndsAfter}
use Rattle.ph_delivery.specs.declared.outcome.Outcome.{Outcome}
use Rattle.ph_delivery.specs.declared.outcome.Outcome.TheVariants as outcome

-- how many bytes of an answer are looked at
abbrev pub answer_limit : ℕ
answer_limit = 16384

-- the bytes begin with a response head of at most 64 fields, which has this status
pub record HasStatus (bytes : List ℕ) (status : ℕ) : Type 0 where
  pub head : ResponseHead
  pub rest : List ℕ
  pub reads : ReadsResponse bytes head rest
  pub room : length head.fields ≤ 64
  pub status_is : status ≡ status_code head

-- the bytes begin with no such head
abbrev pub HasNoStatus : List ℕ → Type 0
HasNoStatus bytes = (status : ℕ) → ¬ (HasStatus bytes status)

-- a status from 200 to 299
abbrev pub is_success : ℕ → Bool
is_success status = nat_le 200 status && nat_le status 299

-- what a status says
abbrev pub outcome_of : ℕ → Outcome
outcome_of status = if is_success status then outcome.Accepted else outcome.Refused status

-- what the bytes say: what the status of their head says, and `Refused` with 0 where they have none
abbrev pub Says : List ℕ → Outcome → Type 0
Says bytes said =
    ((status : ℕ) × HasStatus bytes status × (said ≡ outcome_of status))
    ⊎ (HasNoStatus bytes × (said ≡ outcome.Refused 0))

-- an answer was heard: these bytes of it were read, up to its end, and the first 16,384 of them say
-- this; or fewer of it were, and whatever more of it comes, its first 16,384 bytes say this
abbrev pub Hears : SourceState → SourceState → List ℕ → Outcome → Type 0
Hears old new bytes said =
    (EndsAfter old new bytes × Says (take answer_limit bytes) said)
    ⊎ (Moves old new bytes × ((more : List ℕ) → Says (take answer_limit (bytes ++ more)) said))
