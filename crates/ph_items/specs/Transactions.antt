-- Balance transactions: what they come from, and what they give to a balance.
use Rattle.std.specs.Prelude.{ℕ, ℤ, ◌-ℤ◌}
use Rattle.ph_base.specs.declared.ids.Kind.{Kind}
use Rattle.ph_base.specs.declared.ids.Kind.TheVariants as kind
use Rattle.ph_items.specs.declared.transactions.Txn.{Txn}
use Rattle.ph_items.specs.declared.transactions.TxnSource.{TxnSource}
use Rattle.ph_items.specs.declared.transactions.TxnSource.TheVariants as source

-- the kind of the object that a transaction comes from
abbrev pub source_kind : TxnSource → Kind
source_kind (source.Charge number) = kind.Charge
source_kind (source.Payment number) = kind.Payment
source_kind (source.Refund number) = kind.Refund
source_kind (source.Dispute number) = kind.Dispute
source_kind (source.Transfer number) = kind.Transfer
source_kind (source.Reversal number) = kind.Reversal
source_kind (source.Fee number) = kind.Fee
source_kind (source.FeeRefund number) = kind.FeeRefund

-- the number of that object
abbrev pub source_number : TxnSource → ℕ
source_number (source.Charge number) = number
source_number (source.Payment number) = number
source_number (source.Refund number) = number
source_number (source.Dispute number) = number
source_number (source.Transfer number) = number
source_number (source.Reversal number) = number
source_number (source.Fee number) = number
source_number (source.FeeRefund number) = number

-- what a transaction gives to the balance of its account: its amount less its fee
abbrev pub net_amount : Txn → ℤ
net_amount txn = txn.amount -ℤ txn.fee
