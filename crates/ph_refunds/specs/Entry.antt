-- The rows that a refund adds.
use Rattle.std.specs.Prelude.{ℕ, ◌+◌, max, pos, neg_ℤ, [], Option, None, Some, option_map}
use Rattle.ph_calls.specs.declared.call.CreateRefund.{CreateRefund}
use Rattle.ph_kinds.specs.Kept.{first_metadata}
use Rattle.ph_items.specs.declared.charges.Capture.{Capture}
use Rattle.ph_items.specs.declared.charges.Charge.{Charge}
use Rattle.ph_items.specs.declared.event_kinds.EventKind.TheVariants as event
use Rattle.ph_items.specs.declared.items.Item.TheVariants as item
use Rattle.ph_items.specs.Charges.{paid_intent}
use Rattle.ph_items.specs.declared.refunds.Refund.{Refund}
use Rattle.ph_items.specs.declared.transactions.Txn.{Txn}
use Rattle.ph_items.specs.declared.transactions.TxnSource.TheVariants as source
use Rattle.ph_items.specs.declared.transactions.TxnType.TheVariants as sort
use Rattle.ph_reversals.specs.FeeRefunds.{with_fee_refund, with_given_back}
use Rattle.ph_reversals.specs.Reversals.{with_reversal, with_reversed}
use Rattle.ph_rows.specs.Batches.{BatchState, last_place, with_row, with_announced}
use Rattle.ph_refunds.specs.declared.parts.FeePart.{FeePart}
use Rattle.ph_refunds.specs.declared.parts.TransferPart.{TransferPart}

-- the number of the reversal that a refund makes whose row is the next one: it stands behind the refund and its transaction, where
-- there is one
abbrev pub reversal_made : BatchState → Option TransferPart → Option ℕ
reversal_made batch transfer = option_map (λ (part : TransferPart). last_place batch + 3) transfer

-- the refund of an amount of a charge and of a part of its transfer, or none, as its call says, whose row is the next one: its
-- transaction stands behind it
abbrev pub new_refund : CreateRefund → ℕ → Charge → ℕ → Option TransferPart → BatchState → Refund
new_refund call object charge amount transfer batch = record {
  charge = object;
  intent = paid_intent charge.sort;
  amount = amount;
  currency = charge.currency;
  reason = call.reason;
  metadata = first_metadata call.metadata;
  transaction = last_place batch + 2;
  reversal = reversal_made batch transfer;
}

-- the transaction that takes a refunded amount: nothing of the charge's fee comes back
abbrev pub refund_txn : ℕ → Charge → ℕ → ℕ → Txn
refund_txn number charge amount available_on = record {
  sort = sort.Refund;
  amount = neg_ℤ (pos amount);
  fee = pos 0;
  currency = charge.currency;
  available_on = available_on;
  source = source.Refund number;
}

-- a charge of which an amount more is refunded
abbrev pub refunded_charge : ℕ → Charge → Charge
refunded_charge amount charge = record charge { amount_refunded = charge.amount_refunded + amount }

-- the moment from which a refund of what was captured counts: now, or when that is available, the later of the two
abbrev pub refunded_from : ℕ → Capture → ℕ
refunded_from now capture = max now capture.available_on

-- the batch with a refund, whose number is the next place
abbrev pub with_refund : ℕ → Refund → BatchState → BatchState
with_refund account refund batch = with_row batch (last_place batch + 1) account (item.Refund refund)

-- the batch with the transaction of the refund in its last row
abbrev pub with_refund_txn : ℕ → Charge → ℕ → ℕ → BatchState → BatchState
with_refund_txn account charge amount available_on batch =
    with_row batch (last_place batch + 1) account (item.Txn (refund_txn (last_place batch) charge amount available_on))

-- the batch with a version of a charge of which a refund is told
abbrev pub with_refunded : ℕ → ℕ → Charge → BatchState → BatchState
with_refunded account object charge batch =
    with_announced (with_row batch object account (item.Charge charge)) event.ChargeRefunded object

-- the batch with what the refund of a number takes back of a transfer, where it does; it has no metadata
abbrev pub with_taken_back : ℕ → Option TransferPart → BatchState → BatchState
with_taken_back refund None batch = batch
with_taken_back refund (Some part) batch = with_reversal part.object part.transfer part.amount (Some refund) [] batch

-- the batch with what a refund gives back of an application fee, where it does; it has no metadata
abbrev pub with_part_given_back : Option FeePart → BatchState → BatchState
with_part_given_back None batch = batch
with_part_given_back (Some part) batch = with_fee_refund part.object part.fee part.amount [] batch

-- the batch with the version of the transfer of which a part was taken back, where one was, and what is told of it
abbrev pub with_transfer_told : Option TransferPart → BatchState → BatchState
with_transfer_told None batch = batch
with_transfer_told (Some part) batch = with_reversed part.account part.object part.transfer part.amount batch

-- the batch with the version of the application fee of which a part was given back, where one was, and what is told of it
abbrev pub with_fee_told : Option FeePart → BatchState → BatchState
with_fee_told None batch = batch
with_fee_told (Some part) batch = with_given_back part.account part.object part.fee part.amount batch

-- the batch with the refund of an amount of a captured charge of an account, and of parts of its transfer and application fee: the
-- refund, its transaction, the reversal, the fee refund; then the versions of the charge, the transfer and the application fee
abbrev pub refund_rows : CreateRefund → ℕ → ℕ → Charge → Capture → ℕ → Option TransferPart → Option FeePart → BatchState → BatchState
refund_rows call account object charge capture amount transfer fee batch =
    with_fee_told fee (with_transfer_told transfer
    (with_refunded account object (refunded_charge amount charge)
    (with_part_given_back fee (with_taken_back (last_place batch + 1) transfer
    (with_refund_txn account charge amount (refunded_from batch.at capture)
    (with_refund account (new_refund call object charge amount transfer batch) batch))))))
