-- Attempts: the one that a call begins.
use Rattle.std.specs.Prelude.{ℕ, ◌+◌}
use Rattle.ph_base.specs.declared.acquirer.Method.{Method}
use Rattle.ph_facts.specs.Outcomes.{Outcome, Adds}
use Rattle.ph_facts.specs.Touches.{Cause, Touch, Begins}
use Rattle.ph_money.specs.declared.currencies.Currency.{Currency}
use Rattle.ph_items.specs.declared.attempts.Attempt.{Attempt}
use Rattle.ph_items.specs.declared.attempts.AttemptState.TheVariants as state
use Rattle.ph_items.specs.declared.intents.Intent.{Intent}
use Rattle.ph_items.specs.declared.orders.Order.{Order}
use Rattle.ph_items.specs.declared.items.Item.TheVariants as item
use Rattle.ph_rows.specs.Batches.{BatchState, last_place, with_row}
use Rattle.ph_intents.specs.Versions.{with_version}

-- the order of a new attempt: an amount by a method, under the next place, which will be the attempt's number
abbrev pub new_order : ℕ → Currency → Method → BatchState → Order
new_order amount currency method batch = record {
  reference = last_place batch + 1;
  amount = amount;
  currency = currency;
  method = method;
}

-- a new attempt to have a payment intent paid, an amount by a method: live, and begun by the batch's entry
abbrev pub new_attempt : ℕ → ℕ → Currency → Method → BatchState → Attempt
new_attempt intent amount currency method batch = record {
  intent = intent;
  order = new_order amount currency method batch;
  state = state.Live;
  opener = batch.entry;
}

-- the batch with a new attempt
abbrev pub with_new_attempt : ℕ → ℕ → ℕ → Currency → Method → BatchState → BatchState
with_new_attempt account intent amount currency method batch =
    with_row batch (last_place batch + 1) account (item.Attempt (new_attempt intent amount currency method batch))

-- the batch with a new attempt to have all of a payment intent paid
abbrev pub with_attempt : ℕ → ℕ → Intent → Method → BatchState → BatchState
with_attempt account object intent method batch =
    with_new_attempt account object intent.amount intent.currency method batch

-- what is done that begins such an attempt
abbrev pub begins : Cause → ℕ → Intent → Method → BatchState → Touch
begins cause object intent method batch = Begins cause object (new_order intent.amount intent.currency method batch)

-- a further version of a payment intent, and a new attempt to have it paid by a method, for a cause
abbrev pub attempted : Cause → ℕ → ℕ → Intent → Method → BatchState → Outcome
attempted cause account object intent method batch =
    Adds (begins cause object intent method (with_version account object intent batch)) object
    (with_attempt account object intent method (with_version account object intent batch))
