-- The capture.
use Rattle.std.specs.Prelude.{ℕ, ◌==◌, ◌||◌, nat_lt, if◌then◌else◌, List, Option, None, Some, unwrap_or, codes}
use Rattle.ph_calls.specs.declared.call.CaptureIntent.{CaptureIntent}
use Rattle.ph_facts.specs.Outcomes.{Outcome, Adds}
use Rattle.ph_facts.specs.Touches.{Puts}
use Rattle.ph_charges.specs.Captures as captures
use Rattle.ph_rows.specs.declared.rows.Row.{Row}
use Rattle.ph_items.specs.declared.intents.Intent.{Intent}
use Rattle.ph_items.specs.declared.intents.IntentStatus.{IntentStatus}
use Rattle.ph_items.specs.declared.event_kinds.EventKind.TheVariants as event
use Rattle.ph_rows.specs.Batches.{BatchState}
use Rattle.ph_intents.specs.declared.statuses.Step.TheVariants as step
use Rattle.ph_intents.specs.Fees.{is_wrong_fee, with_fee}
use Rattle.ph_intents.specs.Refusals.{made_at, if_allowed, invalid_value}
use Rattle.ph_intents.specs.Statuses.{next_status}
use Rattle.ph_intents.specs.Versions.{with_all_told}

-- a payment intent of which so much is received; the rest can't be captured any more
abbrev pub received_intent : ℕ → Intent → IntentStatus → Intent
received_intent amount intent status = record intent {
  status = status;
  amount_capturable = 0;
  amount_received = amount;
}

-- the batch with the capture of an amount of a payment intent's charge, with a fee or none named, where it has a charge
abbrev pub with_charge_captured : List Row → ℕ → Option ℕ → Option ℕ → BatchState → BatchState
with_charge_captured rows amount fee None batch = batch
with_charge_captured rows amount fee (Some charge) batch = captures.capture_of rows charge amount fee batch

-- the capture of an amount with a fee or none named: of the charge, and of the payment intent
abbrev pub captured_with : List Row → ℕ → ℕ → Option ℕ → BatchState → ℕ → Intent → IntentStatus → Outcome
captured_with rows account amount fee batch object intent status =
    Adds (Puts object status) object
    (with_all_told account object (received_intent amount (with_fee fee intent) status) event.IntentSucceeded
    (with_charge_captured rows amount fee intent.latest_charge batch))

-- the same of an amount above 0 and no more than can be captured, with a fee that is possible
abbrev pub capture_amount : List Row → ℕ → ℕ → Option ℕ → BatchState → ℕ → Intent → IntentStatus → Outcome
capture_amount rows account amount fee batch object intent status =
    if amount == 0 || nat_lt intent.amount_capturable amount then invalid_value (codes "amount_to_capture")
    else if is_wrong_fee account intent.destination fee amount then invalid_value (codes "application_fee_amount")
    else captured_with rows account amount fee batch object intent status

-- the capture of a payment intent, where its status allows it: of the amount named, or of all that can be captured
abbrev pub capture_of : List Row → ℕ → Option ℕ → Option ℕ → BatchState → ℕ → Intent → Outcome
capture_of rows account amount fee batch object intent =
    if_allowed (λ status. capture_amount rows account (unwrap_or amount intent.amount_capturable) fee batch object intent status)
    (next_status intent.status step.Capture)

-- the capture of the payment intent that the path names
abbrev pub capture_outcome : List Row → ℕ → CaptureIntent → BatchState → Outcome
capture_outcome rows account call batch =
    made_at (λ object intent. capture_of rows account call.amount_to_capture call.application_fee_amount batch object intent)
    rows account call.id
