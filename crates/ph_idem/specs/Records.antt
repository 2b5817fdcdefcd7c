-- The records of keys, the newest first, and what a call finds among them.
use Rattle.std.specs.Prelude.{ℕ, ◌+◌, ◌==◌, ◌&&◌, nat_le, Bool, false, if◌then◌else◌, List, [], ◌∷◌, Option, Some, None, bytes_eq, drop, unwrap_or}
use Rattle.std.specs.List.{find}
use Rattle.ph_doings.specs.Records.{a_day}
use Rattle.ph_idem.specs.declared.asked.Asked.{Asked}
use Rattle.ph_idem.specs.declared.found.Found.{Found}
use Rattle.ph_idem.specs.declared.found.Found.TheVariants.{Fresh, Differs, Begun, Saved}
use Rattle.ph_idem.specs.declared.key_record.KeyRecord.{KeyRecord}
use Rattle.ph_idem.specs.declared.key_record.Saved.{Saved as Reply}
use Rattle.ph_idem.specs.declared.shape.Shape.{Shape}
use Rattle.ph_idem.specs.Shapes.{is_same_shape}

-- the record of what a call asked, opened by the entry of a place at a moment: it has no attempt and no reply yet
abbrev pub opened_record : Asked → ℕ → ℕ → KeyRecord
opened_record asked entry at = record {
  account = asked.account;
  key = asked.key;
  shape = asked.shape;
  entry = entry;
  at = at;
  reference = None;
  result = None;
}

-- it is the record of this account and key
abbrev pub is_of : ℕ → List ℕ → KeyRecord → Bool
is_of account key kept = kept.account == account && bytes_eq kept.key key

-- the entry of this place opened it
abbrev pub is_entry : ℕ → KeyRecord → Bool
is_entry entry kept = kept.entry == entry

-- this reference is the attached one
abbrev pub is_reference : ℕ → Option ℕ → Bool
is_reference reference None = false
is_reference reference (Some attached) = attached == reference

-- its call waits for the ruling on the attempt of this reference, or has waited for it
abbrev pub is_attached : ℕ → KeyRecord → Bool
is_attached reference kept = is_reference reference kept.reference

-- at this moment it isn't found any more: a day has passed
abbrev pub is_over_at : ℕ → KeyRecord → Bool
is_over_at at kept = nat_le (kept.at + a_day) at

-- what an equal call finds of a record with this entry, reference and result: its reply, where it has one, or that it has begun
abbrev pub state_with : ℕ → Option ℕ → Option Reply → Found
state_with entry reference None = Begun (unwrap_or reference 0)
state_with entry reference (Some reply) = Saved entry

abbrev pub state_of : KeyRecord → Found
state_of kept = state_with kept.entry kept.reference kept.result

-- what a call of this shape finds of a record of its account and key at a moment
abbrev pub found_of : Shape → ℕ → KeyRecord → Found
found_of shape at kept =
    if is_over_at at kept then Fresh else (if is_same_shape kept.shape shape then state_of kept else Differs)

-- the same, where there is a record
abbrev pub found_if : Shape → ℕ → Option KeyRecord → Found
found_if shape at None = Fresh
found_if shape at (Some kept) = found_of shape at kept

-- what a call of this account, key and shape finds at a moment: the latest record of the account and key counts
abbrev pub found_in : ℕ → List ℕ → Shape → ℕ → List KeyRecord → Found
found_in account key shape at records = found_if shape at (find (is_of account key) records)

-- the reply that a record has, where there is one
abbrev pub reply_if : Option KeyRecord → Option Reply
reply_if None = None
reply_if (Some kept) = kept.result

-- the reply that was saved for the entry of a place
abbrev pub saved_in : ℕ → List KeyRecord → Option Reply
saved_in entry records = reply_if (find (is_entry entry) records)

-- the records with the first that passes a test changed
abbrev pub update_first : (KeyRecord → Bool) → (KeyRecord → KeyRecord) → List KeyRecord → List KeyRecord
update_first test change [] = []
update_first test change (kept ∷ records) = if test kept then change kept ∷ records else kept ∷ update_first test change records

-- the entry of a place opened the newest record
abbrev pub is_newest : ℕ → List KeyRecord → Bool
is_newest entry [] = false
is_newest entry (kept ∷ records) = is_entry entry kept

-- the records without the newest, where the entry of a place opened it
abbrev pub taken_back : ℕ → List KeyRecord → List KeyRecord
taken_back entry records = if is_newest entry records then drop 1 records else records

abbrev pub with_reference : ℕ → KeyRecord → KeyRecord
with_reference reference kept = record kept { reference = Some reference }

abbrev pub with_result : Reply → KeyRecord → KeyRecord
with_result reply kept = record kept { result = Some reply }
