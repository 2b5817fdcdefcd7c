-- Which kind of object an item is a version of.
use Rattle.std.specs.Prelude.{ℕ, Bool, ◌==◌}
use Rattle.ph_base.specs.declared.ids.Kind.{Kind}
use Rattle.ph_base.specs.declared.ids.Kind.TheVariants as kind
use Rattle.ph_items.specs.Charges.{charge_kind}
use Rattle.ph_items.specs.declared.items.Item.{Item}
use Rattle.ph_items.specs.declared.items.Item.TheVariants as item

-- the kind of the object that an item is a version of
abbrev pub kind_of : Item → Kind
kind_of (item.Account account) = kind.Account
kind_of (item.Intent intent) = kind.Intent
kind_of (item.Attempt attempt) = kind.Attempt
kind_of (item.Charge charge) = charge_kind charge.sort
kind_of (item.Refund refund) = kind.Refund
kind_of (item.Dispute dispute) = kind.Dispute
kind_of (item.Transfer transfer) = kind.Transfer
kind_of (item.Reversal reversal) = kind.Reversal
kind_of (item.Fee fee) = kind.Fee
kind_of (item.FeeRefund fee_refund) = kind.FeeRefund
kind_of (item.Txn txn) = kind.Txn
kind_of (item.Event event) = kind.Event

-- the place of a kind in the list of kinds
abbrev pub kind_number : Kind → ℕ
kind_number kind.Intent = 0
kind_number kind.Attempt = 1
kind_number kind.Charge = 2
kind_number kind.Payment = 3
kind_number kind.Refund = 4
kind_number kind.Dispute = 5
kind_number kind.Transfer = 6
kind_number kind.Reversal = 7
kind_number kind.Fee = 8
kind_number kind.FeeRefund = 9
kind_number kind.Txn = 10
kind_number kind.Account = 11
kind_number kind.Event = 12
kind_number kind.Endpoint = 13
kind_number kind.Delivery = 14
kind_number kind.Payout = 15

-- the item is a version of an object of the kind
abbrev pub is_kind : Kind → Item → Bool
is_kind wanted item = kind_number (kind_of item) == kind_number wanted
