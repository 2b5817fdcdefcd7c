-- The cancel.
use Rattle.std.specs.Prelude.{ℕ, List, Option}
use Rattle.ph_calls.specs.declared.call.CancelIntent.{CancelIntent}
use Rattle.ph_facts.specs.Outcomes.{Outcome}
use Rattle.ph_rows.specs.declared.rows.Row.{Row}
use Rattle.ph_items.specs.declared.intents.Intent.{Intent}
use Rattle.ph_items.specs.declared.intents.IntentStatus.{IntentStatus}
use Rattle.ph_items.specs.declared.intents.CancellationReason.{CancellationReason}
use Rattle.ph_items.specs.declared.event_kinds.EventKind.TheVariants as event
use Rattle.ph_rows.specs.Batches.{BatchState}
use Rattle.ph_intents.specs.declared.statuses.Step.TheVariants as step
use Rattle.ph_intents.specs.Refusals.{made_at, if_allowed}
use Rattle.ph_intents.specs.Statuses.{next_status}
use Rattle.ph_intents.specs.Versions.{adds_told}

-- a payment intent that is canceled, for a reason or none: nothing can be captured any more
abbrev pub canceled_intent : Option CancellationReason → Intent → IntentStatus → Intent
canceled_intent reason intent status = record intent {
  status = status;
  cancellation_reason = reason;
  amount_capturable = 0;
}

-- the cancel of a payment intent, where its status allows it
abbrev pub cancel_of : ℕ → Option CancellationReason → BatchState → ℕ → Intent → Outcome
cancel_of account reason batch object intent =
    if_allowed (λ status. adds_told account object (canceled_intent reason intent status) event.IntentCanceled batch)
    (next_status intent.status step.Cancel)

-- the cancel of the payment intent that the path names
abbrev pub cancel_outcome : List Row → ℕ → CancelIntent → BatchState → Outcome
cancel_outcome rows account call batch =
    made_at (λ object intent. cancel_of account call.cancellation_reason batch object intent) rows account call.id
