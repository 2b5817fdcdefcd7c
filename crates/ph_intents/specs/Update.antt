-- The update.
use Rattle.std.specs.Prelude.{ℕ, Bool, true, false, ◌==◌, ◌||◌, nat_lt, if◌then◌else◌, List, length, Option, unwrap_or, codes}
use Rattle.std.specs.Option.{is_some, option_or}
use Rattle.ph_calls.specs.declared.call.UpdateIntent.{UpdateIntent}
use Rattle.ph_facts.specs.Outcomes.{Outcome, Refuses, Adds}
use Rattle.ph_facts.specs.Touches.{Touch, Puts, Edits}
use Rattle.ph_errors.specs.Table.{error_of, AmountTooSmall}
use Rattle.ph_money.specs.Currencies.{terms_of}
use Rattle.ph_rows.specs.declared.rows.Row.{Row}
use Rattle.ph_items.specs.declared.intents.Intent.{Intent}
use Rattle.ph_items.specs.declared.intents.IntentStatus.{IntentStatus}
use Rattle.ph_rows.specs.Batches.{BatchState}
use Rattle.ph_intents.specs.declared.statuses.Step.{Step}
use Rattle.ph_intents.specs.declared.statuses.Step.TheVariants as step
use Rattle.ph_intents.specs.Fees.{is_wrong_fee}
use Rattle.ph_intents.specs.Metadata.{merged_metadata}
use Rattle.ph_intents.specs.Refusals.{made_at, if_allowed, invalid_value}
use Rattle.ph_intents.specs.Statuses.{line_number, next_status}
use Rattle.ph_intents.specs.Versions.{with_version}

-- the step of an update that names a payment method, or something else than description and metadata, or neither
abbrev pub step_by : Bool → Bool → Step
step_by true other = step.Choose
step_by false true = step.Change
step_by false false = step.Describe

-- the step of an update
abbrev pub step_of : UpdateIntent → Step
step_of call =
    step_by (is_some call.payment_method) (is_some call.amount || is_some call.currency || is_some call.application_fee_amount || is_some call.transfer_group)

-- a payment intent after an update: what is named is set, and all else is as it was
abbrev pub updated_intent : UpdateIntent → Intent → IntentStatus → Intent
updated_intent call intent status = record intent {
  amount = unwrap_or call.amount intent.amount;
  currency = unwrap_or call.currency intent.currency;
  status = status;
  payment_method = option_or call.payment_method intent.payment_method;
  description = option_or call.description intent.description;
  metadata = merged_metadata call.metadata intent.metadata;
  application_fee_amount = option_or call.application_fee_amount intent.application_fee_amount;
  transfer_group = option_or call.transfer_group intent.transfer_group;
}

-- the greatest number of keys
abbrev pub most_keys : ℕ
most_keys = 50

-- what an update does that leads a payment intent from one status to another: it is put there; or it is edited, where that is
-- the same
abbrev pub led : ℕ → IntentStatus → IntentStatus → Touch
led object old new = if line_number old == line_number new then Edits object new else Puts object new

-- the amount of a payment intent is below the minimum of its currency
abbrev pub is_too_small : Intent → Bool
is_too_small intent = nat_lt intent.amount (terms_of intent.currency).minimum

-- a version that results from an update at a status, with an amount of at least the currency's minimum, a fee that is
-- possible where one is named, and at most 50 keys
abbrev pub update_with : ℕ → Option ℕ → BatchState → ℕ → IntentStatus → Intent → Outcome
update_with account fee batch object old intent =
    if is_too_small intent then Refuses (error_of AmountTooSmall)
    else if is_wrong_fee account intent.destination fee intent.amount then invalid_value (codes "application_fee_amount")
    else if nat_lt most_keys (length intent.metadata) then invalid_value (codes "metadata")
    else Adds (led object old intent.status) object (with_version account object intent batch)

-- the update of a payment intent, where its status allows it
abbrev pub update_of : ℕ → UpdateIntent → BatchState → ℕ → Intent → Outcome
update_of account call batch object intent =
    if_allowed (λ status. update_with account call.application_fee_amount batch object intent.status (updated_intent call intent status))
    (next_status intent.status (step_of call))

-- the update of the payment intent that the path names
abbrev pub update_outcome : List Row → ℕ → UpdateIntent → BatchState → Outcome
update_outcome rows account call batch = made_at (update_of account call batch) rows account call.id
