-- The laws of the records that are kept, over every list of turns.
use Rattle.std.specs.Prelude.{◌≡◌, ℕ, suc, true, false, List, [], ◌∷◌, length, Option, Some, None, ◌⊎◌}
use Rattle.std.specs.List.{find}
use Rattle.ph_doings.specs.Confirmations.{begun_by}
use Rattle.ph_doings.specs.Doings.{Doing, Leaves, Puts, Edits, Begins, Resumes, Parks, Settles}
use Rattle.ph_doings.specs.Records.{AreLawful, Said, Replies, Silence, Waits, Turn, doings_of, record_of, time_of}
use Rattle.ph_doings.specs.Records as doing
use Rattle.ph_doings.specs.Standings.{is_parked, standing_of}
use Rattle.ph_idem.specs.declared.found.Found.{Found}
use Rattle.ph_idem.specs.declared.found.Found.TheVariants.{Fresh, Differs, Begun, Saved}
use Rattle.ph_idem.specs.declared.key_record.KeyRecord.{KeyRecord}
use Rattle.ph_idem.specs.declared.key_record.Saved.{Saved as Reply}
use Rattle.ph_idem.specs.declared.asked.Asked.{Asked}
use Rattle.ph_idem.specs.Kept.{Opening, has_key, is_like, opening_of, records_after, reference_said}
use Rattle.ph_idem.specs.Records.{found_in, is_attached, is_entry, saved_in, update_first, with_result}

-- a record whose call has begun is found, and its attempt isn't parked; 0 is no attempt's reference
pub record FindsLive (past : List Doing) (found : Found) : Type 0 where
  pub reference : ℕ
  pub found_is : found ≡ Begun reference
  pub not_parked : (reference ≡ 0) ⊎ (is_parked (standing_of past reference) ≡ false)

-- a record whose attempt is parked is found
pub record FindsParked (past : List Doing) (reference : ℕ) (found : Found) : Type 0 where
  pub found_is : found ≡ Begun reference
  pub parked : is_parked (standing_of past reference) ≡ true

-- a record with this reply is found
pub record FindsSaved (records : List KeyRecord) (reply : Reply) (found : Found) : Type 0 where
  pub entry : ℕ
  pub found_is : found ≡ Saved entry
  pub reply_is : saved_in entry records ≡ Some reply

-- what is found among these records is what a call finds of what happened
abbrev pub FindsAs : (ℕ → Reply) → List Doing → List KeyRecord → doing.Found → Found → Type 0
FindsAs reply past records doing.Fresh found = found ≡ Fresh
FindsAs reply past records doing.Differs found = found ≡ Differs
FindsAs reply past records doing.Live found = FindsLive past found
FindsAs reply past records (doing.Parked reference) found = FindsParked past reference found
FindsAs reply past records (doing.Saved place) found = FindsSaved records (reply place) found

-- what a call finds among the records that are kept is what it finds of what happened
abbrev pub RecordsAreFound : Type 0
RecordsAreFound = (reply : ℕ → Reply) (opened : ℕ) (past : List (Turn Asked)) (asked : Asked)
    → FindsAs reply (doings_of past) (records_after reply opened past) (record_of (has_key asked) (is_like asked) opened past)
    (found_in asked.account asked.key asked.shape (time_of opened past) (records_after reply opened past))

-- where a call opens a record and waits, it begins the attempt for whose ruling it waits
abbrev pub Tells : Said → Doing → Type 0
Tells Replies doing = Unit {0}
Tells Silence doing = Unit {0}
Tells (Waits reference) doing = begun_by doing ≡ Some reference

abbrev pub TellsIf : List Opening → Said → Doing → Type 0
TellsIf [] said doing = Unit {0}
TellsIf (opening ∷ openings) said doing = Tells said doing

abbrev pub AreTold : ℕ → List (Turn Asked) → Type 0
AreTold opened [] = Unit {0}
AreTold opened (turn ∷ past) = TellsIf (opening_of opened past turn.asked) turn.said turn.doing × AreTold opened past

-- the reply to the call of a place, where this is said to it
abbrev pub reply_said : (ℕ → Reply) → ℕ → Said → Option Reply
reply_said reply place Replies = Some (reply place)
reply_said reply place Silence = None
reply_said reply place (Waits reference) = None

-- the record of an opening, as soon as this is said to its call
abbrev pub opened_as : (ℕ → Reply) → Said → Opening → KeyRecord
opened_as reply said opening = record {
  account = opening.asked.account;
  key = opening.asked.key;
  shape = opening.asked.shape;
  entry = opening.place;
  at = opening.moment;
  reference = reference_said said;
  result = reply_said reply opening.place said;
}

-- the records with one that is opened, where one is
abbrev pub with_opened : (ℕ → Reply) → Said → List Opening → List KeyRecord → List KeyRecord
with_opened reply said [] records = records
with_opened reply said (opening ∷ openings) records = opened_as reply said opening ∷ records

-- the records with the reply to the call of one of them, where there is that one
abbrev pub saved_under : Reply → Option KeyRecord → List KeyRecord → List KeyRecord
saved_under reply None records = records
saved_under reply (Some kept) records = update_first (is_entry kept.entry) (with_result reply) records

-- the records after a doing: the reply to a ruling is saved for the call that waits for it
abbrev pub with_settled : Reply → Doing → List KeyRecord → List KeyRecord
with_settled reply Leaves records = records
with_settled reply (Puts intent status) records = records
with_settled reply (Edits intent status) records = records
with_settled reply (Begins cause intent flight) records = records
with_settled reply (Resumes intent flight) records = records
with_settled reply (Parks intent flight) records = records
with_settled reply (Settles intent flight capture ruling) records =
    saved_under reply (find (is_attached flight.order.reference) records) records

-- the records after one turn more
abbrev pub after_turn : (ℕ → Reply) → ℕ → List (Turn Asked) → Turn Asked → List KeyRecord → List KeyRecord
after_turn reply opened past turn records =
    with_opened reply turn.said (opening_of opened past turn.asked) (with_settled (reply (suc (length past))) turn.doing records)

-- the records that are kept after a turn are those from before it, with what it opens and saves
abbrev pub RecordsAreKept : Type 0
RecordsAreKept = (reply : ℕ → Reply) (opened : ℕ) (past : List (Turn Asked)) (turn : Turn Asked)
    → AreLawful has_key is_like opened (turn ∷ past) → AreTold opened (turn ∷ past)
    → records_after reply opened (turn ∷ past) ≡ after_turn reply opened past turn (records_after reply opened past)
