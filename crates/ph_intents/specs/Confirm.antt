-- The confirm.
use Rattle.std.specs.Prelude.{ℕ, List, Option, None, Some}
use Rattle.std.specs.Option.{option_or}
use Rattle.ph_calls.specs.declared.call.ConfirmIntent.{ConfirmIntent}
use Rattle.ph_facts.specs.Outcomes.{Outcome}
use Rattle.ph_facts.specs.Touches.{Confirms}
use Rattle.ph_rows.specs.declared.rows.Row.{Row}
use Rattle.ph_items.specs.declared.intents.Intent.{Intent}
use Rattle.ph_items.specs.declared.intents.IntentStatus.{IntentStatus}
use Rattle.ph_items.specs.declared.payment_methods.PaymentMethod.{PaymentMethod}
use Rattle.ph_rows.specs.Batches.{BatchState}
use Rattle.ph_intents.specs.declared.statuses.Step.TheVariants as step
use Rattle.ph_intents.specs.Attempts.{attempted}
use Rattle.ph_intents.specs.Refusals.{made_at, if_allowed, unexpected_state}
use Rattle.ph_intents.specs.Statuses.{next_status}

-- a payment intent that a payment method is to pay: an earlier failure is forgotten
abbrev pub paying_intent : PaymentMethod → Intent → IntentStatus → Intent
paying_intent method intent status = record intent {
  status = status;
  payment_method = Some method;
  last_payment_error = None;
}

-- the confirm of a payment intent with a payment method, where its status allows it; without one it isn't allowed
abbrev pub confirm_with : ℕ → BatchState → ℕ → Intent → Option PaymentMethod → Outcome
confirm_with account batch object intent None = unexpected_state
confirm_with account batch object intent (Some method) =
    if_allowed (λ status. attempted Confirms account object (paying_intent method intent status) method.method batch)
    (next_status intent.status step.Confirm)

-- the confirm of a payment intent with the payment method that is named, or else its own
abbrev pub confirm_of : ℕ → Option PaymentMethod → BatchState → ℕ → Intent → Outcome
confirm_of account method batch object intent =
    confirm_with account batch object intent (option_or method intent.payment_method)

-- the confirm of the payment intent that the path names
abbrev pub confirm_outcome : List Row → ℕ → ConfirmIntent → BatchState → Outcome
confirm_outcome rows account call batch =
    made_at (λ object intent. confirm_of account call.payment_method batch object intent) rows account call.id
