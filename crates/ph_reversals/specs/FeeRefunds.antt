-- The rows of a refund of an application fee.
use Rattle.std.specs.Prelude.{ℕ, ◌+◌, ◌-◌, max, ℤ, pos, neg_ℤ, List, [], ◌∷◌}
use Rattle.ph_charges.specs.NewRows.{NewRow, with_new_rows}
use Rattle.ph_items.specs.declared.event_kinds.EventKind.TheVariants as event
use Rattle.ph_items.specs.declared.fee_refunds.FeeRefund.{FeeRefund}
use Rattle.ph_items.specs.declared.fees.Fee.{Fee}
use Rattle.ph_items.specs.declared.items.Item.TheVariants as item
use Rattle.ph_items.specs.declared.metadata_pairs.MetadataPair.{MetadataPair}
use Rattle.ph_items.specs.declared.transactions.Txn.{Txn}
use Rattle.ph_items.specs.declared.transactions.TxnSource.TheVariants as source
use Rattle.ph_items.specs.declared.transactions.TxnType.{TxnType}
use Rattle.ph_items.specs.declared.transactions.TxnType.TheVariants as sort
use Rattle.ph_items.specs.Accounts.{platform}
use Rattle.ph_rows.specs.Batches.{BatchState, last_place, with_row, with_announced}

-- what can still be given back of an application fee: the fee, less what was given back
abbrev pub left_of_fee : Fee → ℕ
left_of_fee fee = fee.amount - fee.amount_refunded

-- the moment from which what is given back now of an application fee counts: now, or when the fee's own transaction does, the later
abbrev pub given_back_from : ℕ → Fee → ℕ
given_back_from now fee = max now fee.available_on

-- the refund of an amount of the application fee of a number: the transaction that takes it from the platform stands behind it, whose
-- number is this
abbrev pub new_fee_refund : ℕ → ℕ → Fee → ℕ → List MetadataPair → FeeRefund
new_fee_refund number object fee amount metadata = record {
  fee = object;
  amount = amount;
  currency = fee.currency;
  transaction = number + 1;
  metadata = metadata;
}

-- a transaction of the fee refund of a number
abbrev pub fee_refund_txn : ℕ → TxnType → ℤ → Fee → ℕ → Txn
fee_refund_txn number sort amount fee now = record {
  sort = sort;
  amount = amount;
  fee = pos 0;
  currency = fee.currency;
  available_on = given_back_from now fee;
  source = source.FeeRefund number;
}

-- the rows of the fee refund of a number, of an amount of an application fee: it, the transaction that takes the amount from the
-- platform, and the one that gives it to the account that the fee was taken from
abbrev pub fee_refund_rows : ℕ → FeeRefund → Fee → ℕ → ℕ → List NewRow
fee_refund_rows number refund fee amount now =
    record { account = platform; item = item.FeeRefund refund } ∷
    record { account = platform; item = item.Txn (fee_refund_txn number sort.ApplicationFeeRefund (neg_ℤ (pos amount)) fee now) } ∷
    record { account = fee.account; item = item.Txn (fee_refund_txn number sort.Adjustment (pos amount) fee now) } ∷ []

-- the batch with the rows of the refund of an amount of the application fee of a number
abbrev pub with_fee_refund : ℕ → Fee → ℕ → List MetadataPair → BatchState → BatchState
with_fee_refund object fee amount metadata batch =
    with_new_rows (fee_refund_rows (last_place batch + 1) (new_fee_refund (last_place batch + 1) object fee amount metadata)
    fee amount batch.at) batch

-- an application fee of which an amount more is given back
abbrev pub given_back_fee : ℕ → Fee → Fee
given_back_fee amount fee = record fee { amount_refunded = fee.amount_refunded + amount }

-- the batch with the version of an application fee of which an amount more is given back, and what is told of it
abbrev pub with_given_back : ℕ → ℕ → Fee → ℕ → BatchState → BatchState
with_given_back account object fee amount batch =
    with_announced (with_row batch object account (item.Fee (given_back_fee amount fee))) event.FeeRefunded object
