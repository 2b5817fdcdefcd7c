-- What calls add may be entered after sound rows, which stay sound.
use Rattle.std.specs.Prelude.{◌≡◌, ℕ, ◌+◌, ◌^◌, ◌≤◌, ◌<◌, ◌==◌, ◌||◌, Bool, true, List, [], Some, None, length}
use Rattle.ph_errors.specs.declared.api_error.ApiError.{ApiError}
use Rattle.ph_items.specs.Weights.{AreUtf8}
use Rattle.ph_facts.specs.Outcomes.{Outcome, Refuses, Adds}
use Rattle.ph_facts.specs.Shown.{shown_in, shows, status_in}
use Rattle.ph_facts.specs.Statuses.{may_begin, may_put}
use Rattle.ph_facts.specs.Touches.{Touch, Untouched, Puts, Edits, Begins, Resumes, Parks, Settles}
use Rattle.ph_rows.specs.declared.rows.Row.{Row}
use Rattle.ph_rows.specs.Batches.{BatchState, empty_batch}
use Rattle.ph_rows.specs.Rows.{latest_of}
use Rattle.ph_facts.specs.Entering.{MayBeEntered}
use Rattle.ph_facts.specs.Sound.{IsSound}
use Rattle.ph_rows.specs.Views.{ViewState}

-- a call of which no text is kept
abbrev pub no_texts : {C : Type 0} → C → List (List ℕ)
no_texts call = []

-- no entry adds more rows than this. The most that the table of rows gives is 41: a charge of a connected account, with a
-- fee and disputed at once, has 9 object rows, 4 events and, with four endpoints an account, at most 28 deliveries
abbrev pub most_rows : ℕ
most_rows = 64

-- an entry may be made after the rows of a view: they are sound, and sixteen digits number those that it adds
pub record IsReady (state : ViewState) : Type 0 where
  pub sound : IsSound state
  pub room : length state.rows + most_rows < 10 ^ 16

-- the empty batch of the entry of a place, after the rows of a view
abbrev pub batch_after : ViewState → ℕ → BatchState
batch_after state entry = empty_batch (length state.rows) state.time entry

-- an error that refuses a call: a parameter or a status doesn't allow it, or an object that it names isn't there
abbrev pub is_refusal : ApiError → Bool
is_refusal error = error.status == 400 || error.status == 404

-- what a call may do after rows: nothing; a payment intent is put where the table of statuses says, or edited at its status; an
-- attempt begins under a number that is new, of a payment intent that may be confirmed or waits for its customer. No call by
-- itself takes an attempt up again, or ends a run
abbrev pub MayBeDone : List Row → Touch → Type 0
MayBeDone rows Untouched = Unit {0}
MayBeDone rows (Puts intent status) = may_put (status_in rows intent) status ≡ true
MayBeDone rows (Edits intent status) = status_in rows intent ≡ Some status
MayBeDone rows (Begins cause intent order) =
    (latest_of order.reference rows ≡ None) × (may_begin cause (status_in rows intent) ≡ true)
MayBeDone rows (Resumes intent order) = ⊥
MayBeDone rows (Parks intent order) = ⊥
MayBeDone rows (Settles intent order capture ruling) = ⊥

-- a batch of what is done may be added after a view
pub record MayBeAdded (state : ViewState) (most : ℕ) (touch : Touch) (batch : BatchState) : Type 0 where
  -- it may be entered: sound rows stay sound with it
  pub enters : MayBeEntered state batch
  -- it is small: so many rows and events
  pub few : length batch.rows + length batch.announced ≤ most
  -- its rows show what is done
  pub shown : shown_in batch.rows ≡ shows touch

-- what a call comes to keeps the rows sound: its refusal is one; or its batch of at most so many rows and events may be
-- added, and what it does may be done
abbrev pub KeepsRows : ViewState → ℕ → Outcome → Type 0
KeepsRows state most (Refuses error) = is_refusal error ≡ true
KeepsRows state most (Adds touch object batch) = MayBeAdded state most touch batch × MayBeDone state.rows touch

-- the law of a call: whatever stands, what it comes to keeps the rows sound, where its texts are UTF-8
abbrev pub KeepsSound : {C : Type 0} → (C → List (List ℕ)) → ℕ → (List Row → ℕ → C → BatchState → Outcome) → Type 0
KeepsSound {C} texts most outcome =
    (state : ViewState) (entry account : ℕ) (call : C) → IsReady state → AreUtf8 (texts call)
    → KeepsRows state most (outcome state.rows account call (batch_after state entry))

-- an outcome is accepted, does this, shows an object, and its batch may be added
abbrev pub IsDone : ViewState → ℕ → Touch → ℕ → Outcome → Type 0
IsDone state most touch object (Refuses error) = ⊥
IsDone state most touch object (Adds done shown batch) = (done ≡ touch) × (shown ≡ object) × MayBeAdded state most touch batch
