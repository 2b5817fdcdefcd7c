-- The records that are kept after what happened.
use Rattle.std.specs.Prelude.{ℕ, suc, ◌==◌, ◌&&◌, Bool, if◌then◌else◌, List, [], ◌∷◌, ◌++◌, length, map, Option, Some, None, bytes_eq}
use Rattle.ph_doings.specs.Records.{Found, Fresh, Differs, Live, Parked, Said, Replies, Silence, Waits, Turn, is_over, last_opened, result_of, said_at, time_of}
use Rattle.ph_doings.specs.Records as doing
use Rattle.ph_idem.specs.declared.asked.Asked.{Asked}
use Rattle.ph_idem.specs.declared.key_record.KeyRecord.{KeyRecord}
use Rattle.ph_idem.specs.declared.key_record.Saved.{Saved as Reply}
use Rattle.ph_idem.specs.Shapes.{is_same_shape}

-- an earlier call had the account and key of this one
abbrev pub has_key : Asked → Asked → Bool
has_key asked earlier = earlier.account == asked.account && bytes_eq earlier.key asked.key

-- an earlier call had the method, path and form of this one
abbrev pub is_like : Asked → Asked → Bool
is_like asked earlier = is_same_shape earlier.shape asked.shape

-- the opening of a record: what was asked, by the entry of a place, at a moment
pub record Opening : Type 0 where
  pub asked : Asked
  pub place : ℕ
  pub moment : ℕ

-- the record that a call opens after the past: it opens one where it finds none
abbrev pub opening_of : ℕ → List (Turn Asked) → Option Asked → List Opening
opening_of opened past None = []
opening_of opened past (Some asked) =
    if is_over (last_opened (has_key asked) (is_like asked) opened past) (time_of opened past)
    then (record { asked = asked; place = suc (length past); moment = time_of opened past }) ∷ [] else []

-- the records that were opened, newest first
abbrev pub openings : ℕ → List (Turn Asked) → List Opening
openings opened [] = []
openings opened (turn ∷ past) = opening_of opened past turn.asked ++ openings opened past

-- the attempt for whose ruling a call waits to which this is said
abbrev pub reference_said : Said → Option ℕ
reference_said Replies = None
reference_said Silence = None
reference_said (Waits reference) = Some reference

-- the reply that is found, where each entry had this reply
abbrev pub reply_found : (ℕ → Reply) → Found → Option Reply
reply_found reply Fresh = None
reply_found reply Differs = None
reply_found reply Live = None
reply_found reply (Parked reference) = None
reply_found reply (doing.Saved place) = Some (reply place)

-- a record as it stands after the past
abbrev pub kept_of : (ℕ → Reply) → List (Turn Asked) → Opening → KeyRecord
kept_of reply past opening = record {
  account = opening.asked.account;
  key = opening.asked.key;
  shape = opening.asked.shape;
  entry = opening.place;
  at = opening.moment;
  reference = reference_said (said_at past opening.place);
  result = reply_found reply (result_of past opening.place);
}

-- the records that are kept after the past, newest first
abbrev pub records_after : (ℕ → Reply) → ℕ → List (Turn Asked) → List KeyRecord
records_after reply opened past = map (kept_of reply past) (openings opened past)
