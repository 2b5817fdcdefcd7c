-- The create: a payment intent that isn't confirmed yet, or one that is confirmed at once.
use Rattle.std.specs.Prelude.{ℕ, ◌+◌, List, Option, None, Some, unwrap_or, codes}
use Rattle.ph_base.specs.declared.acquirer.Method.{Method}
use Rattle.ph_calls.specs.declared.call.CreateIntent.{CreateIntent}
use Rattle.ph_facts.specs.Outcomes.{Outcome, Refuses, Adds}
use Rattle.ph_facts.specs.Touches.{Confirms}
use Rattle.ph_errors.specs.Table.{error_of, ParameterMissing}
use Rattle.ph_kinds.specs.Kept.{first_metadata}
use Rattle.ph_rows.specs.declared.rows.Row.{Row}
use Rattle.ph_items.specs.declared.intents.Intent.{Intent}
use Rattle.ph_items.specs.declared.intents.IntentStatus.{IntentStatus}
use Rattle.ph_items.specs.declared.intents.IntentStatus.TheVariants as status
use Rattle.ph_items.specs.declared.intents.CaptureMethod.TheVariants as capture_method
use Rattle.ph_items.specs.declared.payment_methods.PaymentMethod.{PaymentMethod}
use Rattle.ph_items.specs.declared.event_kinds.EventKind.TheVariants as event
use Rattle.ph_rows.specs.Batches.{BatchState, last_place, with_announced}
use Rattle.ph_intents.specs.Attempts.{begins, with_attempt}
use Rattle.ph_intents.specs.Destinations.{destination_of, with_destination}
use Rattle.ph_intents.specs.Versions.{with_version, adds_told}

-- where a payment intent begins: it waits for a payment method, or for its confirmation where it has one
abbrev pub first_status : Option PaymentMethod → IntentStatus
first_status None = status.RequiresPaymentMethod
first_status (Some method) = status.RequiresConfirmation

-- the first version of a payment intent with a destination or none, in a status: each other field from the call, or its
-- default
abbrev pub new_intent : CreateIntent → Option ℕ → IntentStatus → Intent
new_intent call destination status = record {
  amount = call.amount;
  amount_capturable = 0;
  amount_received = 0;
  currency = call.currency;
  status = status;
  capture_method = unwrap_or call.capture_method capture_method.Automatic;
  payment_method = call.payment_method;
  cancellation_reason = None;
  last_payment_error = None;
  latest_charge = None;
  application_fee_amount = call.application_fee_amount;
  destination = destination;
  description = call.description;
  metadata = first_metadata call.metadata;
  transfer_group = call.transfer_group;
}

-- the create to a destination or none: the payment intent has the next place as its number, and is announced
abbrev pub create_to : ℕ → CreateIntent → BatchState → Option ℕ → Outcome
create_to account call batch destination =
    adds_told account (last_place batch + 1) (new_intent call destination (first_status call.payment_method))
    event.IntentCreated batch

-- the create: it is refused where its destination is no connected account
abbrev pub create_outcome : List Row → ℕ → CreateIntent → BatchState → Outcome
create_outcome rows account call batch =
    with_destination (λ destination. create_to account call batch destination) (destination_of rows call.destination)

-- the batch with a new payment intent of a number, and its attempt to be paid by a method
abbrev pub with_both : ℕ → ℕ → Intent → Method → BatchState → BatchState
with_both account object intent method batch =
    with_attempt account object intent method (with_version account object intent batch)

-- a new payment intent, which is announced, and its attempt to be paid by a method
abbrev pub created_with : ℕ → Intent → Method → BatchState → Outcome
created_with account intent method batch =
    Adds
    (begins Confirms (last_place batch + 1) intent method (with_version account (last_place batch + 1) intent batch))
    (last_place batch + 1)
    (with_announced (with_both account (last_place batch + 1) intent method batch) event.IntentCreated
    (last_place batch + 1))

-- the create that is confirmed at once, to a destination or none, with its payment method; without one it is refused as its
-- request is
abbrev pub create_by : ℕ → CreateIntent → BatchState → Option PaymentMethod → Option ℕ → Outcome
create_by account call batch None destination = Refuses (error_of (ParameterMissing (codes "payment_method")))
create_by account call batch (Some method) destination =
    created_with account (new_intent call destination status.Processing) method.method batch

-- the create that is confirmed at once
abbrev pub create_confirmed_outcome : List Row → ℕ → CreateIntent → BatchState → Outcome
create_confirmed_outcome rows account call batch =
    with_destination (λ destination. create_by account call batch call.payment_method destination)
    (destination_of rows call.destination)
