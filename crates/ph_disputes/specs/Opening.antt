-- The opening of a dispute: the customer's bank asks for a charge back.
use Rattle.std.specs.Prelude.{ℕ, ◌+◌, pos, neg_ℤ, List, Option, None, Some}
use Rattle.ph_rows.specs.declared.rows.Row.{Row}
use Rattle.ph_items.specs.declared.charges.Charge.{Charge}
use Rattle.ph_items.specs.declared.disputes.Dispute.{Dispute}
use Rattle.ph_items.specs.declared.disputes.DisputeStatus.TheVariants as status
use Rattle.ph_items.specs.declared.event_kinds.EventKind.TheVariants as event
use Rattle.ph_items.specs.declared.items.Item.TheVariants as item
use Rattle.ph_items.specs.Charges.{paid_intent}
use Rattle.ph_items.specs.declared.transactions.Txn.{Txn}
use Rattle.ph_items.specs.declared.transactions.TxnSource.TheVariants as source
use Rattle.ph_items.specs.declared.transactions.TxnType.TheVariants as sort
use Rattle.ph_rows.specs.Batches.{BatchState, last_place, version_with, with_row, with_announced}
use Rattle.ph_items.specs.Items.{card_charge_in}
use Rattle.ph_items.specs.Disputes.{dispute_fee}

-- the dispute of a charge: all that was captured of it, and no answer yet
abbrev pub new_dispute : ℕ → Charge → Dispute
new_dispute object charge = record {
  charge = object;
  intent = paid_intent charge.sort;
  amount = charge.amount_captured;
  currency = charge.currency;
  status = status.NeedsResponse;
  evidence = None;
}

-- the transaction that takes a disputed amount now, and the fee of the dispute
abbrev pub taken_txn : ℕ → Charge → ℕ → Txn
taken_txn number charge now = record {
  sort = sort.Adjustment;
  amount = neg_ℤ (pos charge.amount_captured);
  fee = pos dispute_fee;
  currency = charge.currency;
  available_on = now;
  source = source.Dispute number;
}

-- a charge with its dispute
abbrev pub disputed_charge : ℕ → Charge → Charge
disputed_charge number charge = record charge { dispute = Some number }

-- the batch with a dispute, whose number is the next place
abbrev pub with_dispute : ℕ → Dispute → BatchState → BatchState
with_dispute account dispute batch = with_row batch (last_place batch + 1) account (item.Dispute dispute)

-- the batch with the transaction that takes the amount of the dispute of a number
abbrev pub with_taken : ℕ → ℕ → Charge → BatchState → BatchState
with_taken account number charge batch =
    with_row batch (last_place batch + 1) account (item.Txn (taken_txn number charge batch.at))

-- the batch with the version of a charge that has its dispute, which is told
abbrev pub with_disputed : ℕ → ℕ → Charge → ℕ → BatchState → BatchState
with_disputed account object charge number batch =
    with_announced (with_row batch object account (item.Charge (disputed_charge number charge))) event.DisputeCreated number

-- the rows of a dispute with a number: the dispute, its transaction, and the charge of the account
abbrev pub opening_rows : ℕ → ℕ → Charge → ℕ → BatchState → BatchState
opening_rows account object charge number batch =
    with_disputed account object charge number
    (with_taken account number charge (with_dispute account (new_dispute object charge) batch))

-- the batch with the opening of a dispute of a card charge, where the item of a row is one
abbrev pub opening_of : ℕ → ℕ → BatchState → Option Charge → BatchState
opening_of account object batch None = batch
opening_of account object batch (Some charge) = opening_rows account object charge (last_place batch + 1) batch

-- the same for the version of the charge in a row, where there is one
abbrev pub opening_in : ℕ → BatchState → Option Row → BatchState
opening_in object batch None = batch
opening_in object batch (Some row) = opening_of row.account object batch (card_charge_in row.item)

-- the number of the dispute that is opened: the next place, and 0 where the item of a row is no card charge
abbrev pub opened_of : BatchState → Option Charge → ℕ
opened_of batch None = 0
opened_of batch (Some charge) = last_place batch + 1

-- the same for the version of the charge in a row, where there is one
abbrev pub opened_in : BatchState → Option Row → ℕ
opened_in batch None = 0
opened_in batch (Some row) = opened_of batch (card_charge_in row.item)

-- the number of the dispute that is opened of the card charge of a number, and 0 where there is no such charge
abbrev pub opened_number : List Row → ℕ → BatchState → ℕ
opened_number rows object batch = opened_in batch (version_with rows batch object)

-- the opening of a dispute of the card charge of a number, whose last version is in the batch or in the rows before it
abbrev pub open_of : List Row → ℕ → BatchState → BatchState
open_of rows object batch = opening_in object batch (version_with rows batch object)
