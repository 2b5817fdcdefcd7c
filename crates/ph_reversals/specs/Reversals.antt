-- The rows of a reversal of a transfer.
use Rattle.std.specs.Prelude.{ℕ, ◌+◌, ◌-◌, max, ℤ, pos, neg_ℤ, List, [], ◌∷◌, Option}
use Rattle.ph_charges.specs.NewRows.{NewRow, with_new_rows}
use Rattle.ph_items.specs.declared.event_kinds.EventKind.TheVariants as event
use Rattle.ph_items.specs.declared.items.Item.TheVariants as item
use Rattle.ph_items.specs.declared.metadata_pairs.MetadataPair.{MetadataPair}
use Rattle.ph_items.specs.declared.reversals.Reversal.{Reversal}
use Rattle.ph_items.specs.declared.transactions.Txn.{Txn}
use Rattle.ph_items.specs.declared.transactions.TxnSource.TheVariants as source
use Rattle.ph_items.specs.declared.transactions.TxnType.{TxnType}
use Rattle.ph_items.specs.declared.transactions.TxnType.TheVariants as sort
use Rattle.ph_items.specs.declared.transfers.Transfer.{Transfer}
use Rattle.ph_items.specs.Accounts.{platform}
use Rattle.ph_rows.specs.Batches.{BatchState, last_place, with_row, with_announced}

-- what can still be taken back of a transfer: its amount, less what was reversed
abbrev pub left_of_transfer : Transfer → ℕ
left_of_transfer transfer = transfer.amount - transfer.amount_reversed

-- the moment from which what is taken back now of a transfer counts: now, or when the transfer's own transaction does, the later
abbrev pub reversed_from : ℕ → Transfer → ℕ
reversed_from now transfer = max now transfer.available_on

-- the reversal of an amount of the transfer of a number, by a refund or not: the transaction that gives it to the platform stands
-- behind it, whose number is this
abbrev pub new_reversal : ℕ → ℕ → Transfer → ℕ → Option ℕ → List MetadataPair → Reversal
new_reversal number object transfer amount refund metadata = record {
  transfer = object;
  amount = amount;
  currency = transfer.currency;
  refund = refund;
  transaction = number + 1;
  metadata = metadata;
}

-- a transaction of the reversal of a number
abbrev pub reversal_txn : ℕ → TxnType → ℤ → Transfer → ℕ → Txn
reversal_txn number sort amount transfer now = record {
  sort = sort;
  amount = amount;
  fee = pos 0;
  currency = transfer.currency;
  available_on = reversed_from now transfer;
  source = source.Reversal number;
}

-- the rows of the reversal of a number, of an amount of a transfer: it, the transaction that gives the amount to the platform, and
-- the one that takes it from the account that the transfer went to
abbrev pub reversal_rows : ℕ → Reversal → Transfer → ℕ → ℕ → List NewRow
reversal_rows number reversal transfer amount now =
    record { account = platform; item = item.Reversal reversal } ∷
    record { account = platform; item = item.Txn (reversal_txn number sort.Transfer (pos amount) transfer now) } ∷
    record { account = transfer.destination; item = item.Txn (reversal_txn number sort.Adjustment (neg_ℤ (pos amount)) transfer now) } ∷ []

-- the batch with the rows of the reversal of an amount of the transfer of a number
abbrev pub with_reversal : ℕ → Transfer → ℕ → Option ℕ → List MetadataPair → BatchState → BatchState
with_reversal object transfer amount refund metadata batch =
    with_new_rows (reversal_rows (last_place batch + 1) (new_reversal (last_place batch + 1) object transfer amount refund metadata)
    transfer amount batch.at) batch

-- a transfer of which an amount more is reversed
abbrev pub reversed_transfer : ℕ → Transfer → Transfer
reversed_transfer amount transfer = record transfer { amount_reversed = transfer.amount_reversed + amount }

-- the batch with the version of a transfer of which an amount more is reversed, and what is told of it
abbrev pub with_reversed : ℕ → ℕ → Transfer → ℕ → BatchState → BatchState
with_reversed account object transfer amount batch =
    with_announced (with_row batch object account (item.Transfer (reversed_transfer amount transfer))) event.TransferReversed object
