-- What a ruling of the acquirer makes of an attempt and its payment intent: a version of each, and the charge between them.
use Rattle.std.specs.Prelude.{ℕ, List, Option, None, Some}
use Rattle.ph_base.specs.declared.acquirer.Ruling.{Ruling}
use Rattle.ph_base.specs.declared.acquirer.Ruling.TheVariants as ruling
use Rattle.ph_facts.specs.Outcomes.{Outcome, Adds}
use Rattle.ph_facts.specs.Statuses.{state_ruled}
use Rattle.ph_facts.specs.Touches.{Untouched, Settles}
use Rattle.ph_charges.specs.Approvals.{approval_of, charge_number, decline_of}
use Rattle.ph_rows.specs.declared.rows.Row.{Row}
use Rattle.ph_items.specs.declared.attempts.Attempt.{Attempt}
use Rattle.ph_items.specs.declared.intents.Intent.{Intent}
use Rattle.ph_items.specs.declared.intents.IntentStatus.TheVariants as status
use Rattle.ph_items.specs.declared.intents.CaptureMethod.{CaptureMethod}
use Rattle.ph_items.specs.declared.intents.CaptureMethod.TheVariants as capture_method
use Rattle.ph_items.specs.declared.intents.PaymentError.TheVariants as payment_error
use Rattle.ph_items.specs.declared.items.Item.TheVariants as item
use Rattle.ph_items.specs.declared.event_kinds.EventKind.{EventKind}
use Rattle.ph_items.specs.declared.event_kinds.EventKind.TheVariants as event
use Rattle.ph_rows.specs.Batches.{BatchState, with_row}
use Rattle.ph_items.specs.Items.{attempt_in, intent_in}
use Rattle.ph_rows.specs.Rows.{latest_of}
use Rattle.ph_intents.specs.Authenticate.{failed_intent}
use Rattle.ph_intents.specs.Capture.{received_intent}
use Rattle.ph_intents.specs.Versions.{with_all_told}

-- an attempt after a ruling
abbrev pub settled_attempt : Ruling → Attempt → Attempt
settled_attempt ruling attempt = record attempt { state = state_ruled ruling }

-- a payment intent that is approved to be captured later: all of it can be captured
abbrev pub held_intent : Intent → Intent
held_intent intent = record intent { status = status.RequiresCapture; amount_capturable = intent.amount }

-- a payment intent that is approved: captured at once, or held
abbrev pub approved_intent : CaptureMethod → Intent → Intent
approved_intent capture_method.Automatic intent = received_intent intent.amount intent status.Succeeded
approved_intent capture_method.AutomaticAsync intent = received_intent intent.amount intent status.Succeeded
approved_intent capture_method.Manual intent = held_intent intent

-- what a ruling on its attempt says of a payment intent itself
abbrev pub ruled_intent : Ruling → Intent → Intent
ruled_intent ruling.Approved intent = approved_intent intent.capture_method intent
ruled_intent (ruling.Declined decline) intent =
    failed_intent (payment_error.Declined decline) intent status.RequiresPaymentMethod
ruled_intent ruling.Challenge intent = record intent { status = status.RequiresAction }

-- a payment intent with its latest charge
abbrev pub with_latest_charge : Option ℕ → Intent → Intent
with_latest_charge charge intent = record intent { latest_charge = charge }

-- a payment intent after a ruling on its attempt, with its latest charge
abbrev pub settled_intent : Ruling → Option ℕ → Intent → Intent
settled_intent ruling charge intent = with_latest_charge charge (ruled_intent ruling intent)

-- the number of a payment intent's latest charge after a ruling: a new one, or after a challenge the one that it had
abbrev pub charge_after : Ruling → Intent → BatchState → Option ℕ
charge_after ruling.Approved intent batch = Some (charge_number batch)
charge_after (ruling.Declined decline) intent batch = Some (charge_number batch)
charge_after ruling.Challenge intent batch = intent.latest_charge

-- the batch with the charge that a ruling makes of a payment intent of an account, and its event: approved, captured at
-- once with its split, or held; declined, failed; a challenge makes none
abbrev pub with_charge : Ruling → ℕ → ℕ → Intent → BatchState → BatchState
with_charge ruling.Approved account object intent batch = approval_of account object intent batch
with_charge (ruling.Declined decline) account object intent batch = decline_of account object intent batch
with_charge ruling.Challenge account object intent batch = batch

-- what tells of an approval
abbrev pub approved_event : CaptureMethod → EventKind
approved_event capture_method.Automatic = event.IntentSucceeded
approved_event capture_method.AutomaticAsync = event.IntentSucceeded
approved_event capture_method.Manual = event.IntentAmountCapturableUpdated

-- what tells of a ruling
abbrev pub settled_event : Ruling → CaptureMethod → EventKind
settled_event ruling.Approved capture = approved_event capture
settled_event (ruling.Declined decline) capture = event.IntentPaymentFailed
settled_event ruling.Challenge capture = event.IntentRequiresAction

-- the batch with what a ruling makes of a payment intent of an account: its charge, and a further version, which an event
-- tells, and behind that the events of the split
abbrev pub with_ruling : Ruling → ℕ → ℕ → Intent → BatchState → BatchState
with_ruling ruling account object intent batch =
    with_all_told account object (settled_intent ruling (charge_after ruling intent batch) intent)
    (settled_event ruling intent.capture_method) (with_charge ruling account object intent batch)

-- nothing to be settled is there
abbrev pub nothing : BatchState → Outcome
nothing batch = Adds Untouched 0 batch

-- the batch with the version of an attempt after a ruling, under the account that the attempt has
abbrev pub with_settled : Ruling → Row → Attempt → BatchState → BatchState
with_settled ruling row attempt batch =
    with_row batch row.object row.account (item.Attempt (settled_attempt ruling attempt))

-- a version of the attempt in a row, and what a ruling makes of the payment intent in a row
abbrev pub settle_both : Ruling → Row → Attempt → Row → BatchState → Option Intent → Outcome
settle_both ruling row attempt intent_row batch None = nothing batch
settle_both ruling row attempt intent_row batch (Some intent) =
    Adds (Settles intent_row.object attempt.order intent.capture_method ruling) intent_row.object
    (with_ruling ruling intent_row.account intent_row.object intent (with_settled ruling row attempt batch))

-- a ruling on the attempt in a row, whose payment intent is in a row, where there is one
abbrev pub settle_intent : Ruling → Row → Attempt → BatchState → Option Row → Outcome
settle_intent ruling row attempt batch None = nothing batch
settle_intent ruling row attempt batch (Some intent_row) =
    settle_both ruling row attempt intent_row batch (intent_in intent_row.item)

-- a ruling on the attempt in a row, where there is one
abbrev pub settle_attempt : List Row → Ruling → Row → BatchState → Option Attempt → Outcome
settle_attempt rows ruling row batch None = nothing batch
settle_attempt rows ruling row batch (Some attempt) =
    settle_intent ruling row attempt batch (latest_of attempt.intent rows)

-- a ruling on what the row says, where there is one
abbrev pub settle_row : List Row → Ruling → BatchState → Option Row → Outcome
settle_row rows ruling batch None = nothing batch
settle_row rows ruling batch (Some row) = settle_attempt rows ruling row batch (attempt_in row.item)

-- a ruling on the attempt of a number: the last versions of it and of its payment intent are followed by one each, and
-- between them stands the charge
abbrev pub settle_outcome : List Row → ℕ → Ruling → BatchState → Outcome
settle_outcome rows attempt ruling batch = settle_row rows ruling batch (latest_of attempt rows)
