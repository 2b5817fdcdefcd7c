-- The authentication of a customer, which succeeded or failed.
use Rattle.std.specs.Prelude.{ℕ, List, None, Some}
use Rattle.ph_base.specs.declared.acquirer.Method.TheVariants as method
use Rattle.ph_calls.specs.declared.call.Authenticate.{Authenticate}
use Rattle.ph_facts.specs.Outcomes.{Outcome}
use Rattle.ph_facts.specs.Touches.{Authenticates}
use Rattle.ph_rows.specs.declared.rows.Row.{Row}
use Rattle.ph_items.specs.declared.intents.Intent.{Intent}
use Rattle.ph_items.specs.declared.intents.IntentStatus.{IntentStatus}
use Rattle.ph_items.specs.declared.intents.PaymentError.{PaymentError}
use Rattle.ph_items.specs.declared.intents.PaymentError.TheVariants as payment_error
use Rattle.ph_items.specs.declared.event_kinds.EventKind.TheVariants as event
use Rattle.ph_rows.specs.Batches.{BatchState}
use Rattle.ph_intents.specs.declared.statuses.Step.TheVariants as step
use Rattle.ph_intents.specs.Attempts.{attempted}
use Rattle.ph_intents.specs.Refusals.{made_at, if_allowed}
use Rattle.ph_intents.specs.Statuses.{next_status}
use Rattle.ph_intents.specs.Versions.{adds_told}

-- a payment intent whose customer has authenticated: its payment method stays
abbrev pub authenticated_intent : Intent → IntentStatus → Intent
authenticated_intent intent status = record intent { status = status; last_payment_error = None }

-- the authentication of a payment intent's customer, where its status waits for that
abbrev pub authenticate_of : ℕ → BatchState → ℕ → Intent → Outcome
authenticate_of account batch object intent =
    if_allowed (λ status. attempted Authenticates account object (authenticated_intent intent status) method.Authenticated batch)
    (next_status intent.status step.Authenticate)

-- the authentication for the payment intent that the path names
abbrev pub authenticate_outcome : List Row → ℕ → Authenticate → BatchState → Outcome
authenticate_outcome rows account call batch = made_at (authenticate_of account batch) rows account call.id

-- a payment intent that its payment method didn't pay: the payment method goes, and the reason stays
abbrev pub failed_intent : PaymentError → Intent → IntentStatus → Intent
failed_intent error intent status = record intent {
  status = status;
  payment_method = None;
  last_payment_error = Some error;
}

-- the failure of a payment intent's customer to authenticate, where its status waits for that
abbrev pub fail_of : ℕ → BatchState → ℕ → Intent → Outcome
fail_of account batch object intent =
    if_allowed (λ status.
    adds_told account object (failed_intent payment_error.NotAuthenticated intent status) event.IntentPaymentFailed
    batch)
    (next_status intent.status step.Fail)

-- the failure to authenticate for the payment intent that the path names
abbrev pub fail_authentication_outcome : List Row → ℕ → Authenticate → BatchState → Outcome
fail_authentication_outcome rows account call batch = made_at (fail_of account batch) rows account call.id
