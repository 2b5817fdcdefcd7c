-- What a new transfer adds: itself, the payment that it gives to its destination, and the transaction of each.
use Rattle.std.specs.Prelude.{ℕ, ◌+◌, ℤ, pos, neg_ℤ, List, [], ◌∷◌}
use Rattle.ph_items.specs.declared.items.Item.TheVariants as item
use Rattle.ph_items.specs.declared.transactions.Txn.{Txn}
use Rattle.ph_items.specs.declared.transactions.TxnSource.{TxnSource}
use Rattle.ph_items.specs.declared.transactions.TxnSource.TheVariants as source
use Rattle.ph_items.specs.declared.transactions.TxnType.{TxnType}
use Rattle.ph_items.specs.declared.transactions.TxnType.TheVariants as sort
use Rattle.ph_items.specs.declared.transfers.Transfer.{Transfer}
use Rattle.ph_items.specs.Accounts.{platform}
use Rattle.ph_charges.specs.NewRows.{NewRow}
use Rattle.ph_charges.specs.Payments.{payment_given}

-- a transaction of a new transfer: all that it moves is available at one moment
abbrev pub transfer_txn : Transfer → TxnType → ℤ → ℕ → TxnSource → Txn
transfer_txn transfer sort amount fee source = record {
  sort = sort;
  amount = amount;
  fee = pos fee;
  currency = transfer.currency;
  available_on = transfer.available_on;
  source = source;
}

-- the rows of a new transfer, whose number is this: it, the transaction that takes its amount from the platform, its payment, and the
-- transaction that gives the amount to the destination, less what the platform takes of it
abbrev pub transfer_rows : ℕ → Transfer → ℕ → List NewRow
transfer_rows number transfer taken =
    record { account = platform; item = item.Transfer transfer } ∷
    record { account = platform; item = item.Txn (transfer_txn transfer sort.Transfer (neg_ℤ (pos transfer.amount)) 0 (source.Transfer number)) } ∷
    record { account = transfer.destination; item = item.Charge (payment_given number transfer.amount transfer.currency (number + 3) transfer.available_on) } ∷
    record { account = transfer.destination; item = item.Txn (transfer_txn transfer sort.Payment (pos transfer.amount) taken (source.Payment (number + 2))) } ∷ []
