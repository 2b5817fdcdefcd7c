-- What an entry does to payment intents and attempts.
use Rattle.std.specs.Prelude.{ℕ}
use Rattle.ph_base.specs.declared.acquirer.Ruling.{Ruling}
use Rattle.ph_attempts.specs.declared.flights.Flight.{Flight}
use Rattle.ph_items.specs.declared.intents.CaptureMethod.{CaptureMethod}
use Rattle.ph_items.specs.declared.intents.IntentStatus.{IntentStatus}
use Rattle.ph_facts.specs.Touches.{Cause, Touch}
use Rattle.ph_facts.specs.Touches as touch

-- what an entry does: it leaves all payment intents and attempts as they are; it puts a payment intent into a status, or
-- edits it at its status; it begins an attempt of a payment intent; it takes one up again, parks one, or settles one of a
-- payment intent of this capture method with its ruling, each by a run
pub data Doing : Type 0 where
  Leaves : Doing
  Puts : (intent : ℕ) → IntentStatus → Doing
  Edits : (intent : ℕ) → IntentStatus → Doing
  Begins : Cause → (intent : ℕ) → Flight → Doing
  Resumes : (intent : ℕ) → Flight → Doing
  Parks : (intent : ℕ) → Flight → Doing
  Settles : (intent : ℕ) → Flight → CaptureMethod → Ruling → Doing

-- what a call does that touches payment intents and attempts so, of a caller and by a run
abbrev pub doing_of : ℕ → ℕ → Touch → Doing
doing_of caller run touch.Untouched = Leaves
doing_of caller run (touch.Puts intent status) = Puts intent status
doing_of caller run (touch.Edits intent status) = Edits intent status
doing_of caller run (touch.Begins cause intent order) = Begins cause intent (record { caller = caller; run = run; order = order })
doing_of caller run (touch.Resumes intent order) = Resumes intent (record { caller = caller; run = run; order = order })
doing_of caller run (touch.Parks intent order) = Parks intent (record { caller = caller; run = run; order = order })
doing_of caller run (touch.Settles intent order capture ruling) =
    Settles intent (record { caller = caller; run = run; order = order }) capture ruling

-- what a doing does to payment intents and attempts, whoever does it by whichever run
abbrev pub touch_of : Doing → Touch
touch_of Leaves = touch.Untouched
touch_of (Puts intent status) = touch.Puts intent status
touch_of (Edits intent status) = touch.Edits intent status
touch_of (Begins cause intent flight) = touch.Begins cause intent flight.order
touch_of (Resumes intent flight) = touch.Resumes intent flight.order
touch_of (Parks intent flight) = touch.Parks intent flight.order
touch_of (Settles intent flight capture ruling) = touch.Settles intent flight.order capture ruling
