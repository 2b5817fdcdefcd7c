-- Versions of a payment intent in a batch.
use Rattle.std.specs.Prelude.{ℕ}
use Rattle.ph_charges.specs.Told.{with_split_told}
use Rattle.ph_facts.specs.Outcomes.{Outcome, Adds}
use Rattle.ph_facts.specs.Touches.{Puts}
use Rattle.ph_items.specs.declared.intents.Intent.{Intent}
use Rattle.ph_items.specs.declared.items.Item.TheVariants as item
use Rattle.ph_items.specs.declared.event_kinds.EventKind.{EventKind}
use Rattle.ph_rows.specs.Batches.{BatchState, with_row, with_announced}

-- the batch with a version of a payment intent, under an account
abbrev pub with_version : ℕ → ℕ → Intent → BatchState → BatchState
with_version account object intent batch = with_row batch object account (item.Intent intent)

-- the batch with a version of a payment intent, which an event tells
abbrev pub with_told : ℕ → ℕ → Intent → EventKind → BatchState → BatchState
with_told account object intent sort batch = with_announced (with_version account object intent batch) sort object

-- the outcome: the payment intent is put into the status of that version, which is told, and is what the reply shows
abbrev pub adds_told : ℕ → ℕ → Intent → EventKind → BatchState → Outcome
adds_told account object intent sort batch =
    Adds (Puts object intent.status) object (with_told account object intent sort batch)

-- the batch with a version of a payment intent, which an event tells, and the events of the split of its charge behind it
abbrev pub with_all_told : ℕ → ℕ → Intent → EventKind → BatchState → BatchState
with_all_told account object intent sort batch = with_split_told (with_told account object intent sort batch)
