-- The version that an item is, by the kind of its object.
use Rattle.std.specs.Prelude.{ℕ, Option, None, Some, option_and_then}
use Rattle.ph_items.specs.declared.items.Item.{Item}
use Rattle.ph_items.specs.declared.items.Item.TheVariants as item
use Rattle.ph_items.specs.declared.intents.Intent.{Intent}
use Rattle.ph_items.specs.declared.attempts.Attempt.{Attempt}
use Rattle.ph_items.specs.declared.charges.Charge.{Charge}
use Rattle.ph_items.specs.declared.charges.ChargeSort.{ChargeSort}
use Rattle.ph_items.specs.declared.charges.ChargeSort.TheVariants as charge_sort
use Rattle.ph_items.specs.declared.refunds.Refund.{Refund}
use Rattle.ph_items.specs.declared.disputes.Dispute.{Dispute}
use Rattle.ph_items.specs.declared.transfers.Transfer.{Transfer}
use Rattle.ph_items.specs.declared.reversals.Reversal.{Reversal}
use Rattle.ph_items.specs.declared.fees.Fee.{Fee}
use Rattle.ph_items.specs.declared.fee_refunds.FeeRefund.{FeeRefund}
use Rattle.ph_items.specs.declared.transactions.Txn.{Txn}

-- the version of a payment intent that an item is
abbrev pub intent_in : Item → Option Intent
intent_in (item.Account account) = None
intent_in (item.Intent intent) = Some intent
intent_in (item.Attempt attempt) = None
intent_in (item.Charge charge) = None
intent_in (item.Refund refund) = None
intent_in (item.Dispute dispute) = None
intent_in (item.Transfer transfer) = None
intent_in (item.Reversal reversal) = None
intent_in (item.Fee fee) = None
intent_in (item.FeeRefund fee_refund) = None
intent_in (item.Txn txn) = None
intent_in (item.Event event) = None

-- the version of an attempt that an item is
abbrev pub attempt_in : Item → Option Attempt
attempt_in (item.Account account) = None
attempt_in (item.Intent intent) = None
attempt_in (item.Attempt attempt) = Some attempt
attempt_in (item.Charge charge) = None
attempt_in (item.Refund refund) = None
attempt_in (item.Dispute dispute) = None
attempt_in (item.Transfer transfer) = None
attempt_in (item.Reversal reversal) = None
attempt_in (item.Fee fee) = None
attempt_in (item.FeeRefund fee_refund) = None
attempt_in (item.Txn txn) = None
attempt_in (item.Event event) = None

-- the version of a charge that an item is
abbrev pub charge_in : Item → Option Charge
charge_in (item.Account account) = None
charge_in (item.Intent intent) = None
charge_in (item.Attempt attempt) = None
charge_in (item.Charge charge) = Some charge
charge_in (item.Refund refund) = None
charge_in (item.Dispute dispute) = None
charge_in (item.Transfer transfer) = None
charge_in (item.Reversal reversal) = None
charge_in (item.Fee fee) = None
charge_in (item.FeeRefund fee_refund) = None
charge_in (item.Txn txn) = None
charge_in (item.Event event) = None

-- a charge, where it is a card charge
abbrev pub if_card : ChargeSort → Charge → Option Charge
if_card (charge_sort.Card intent) charge = Some charge
if_card (charge_sort.Payment transfer) charge = None

-- the version of a card charge that an item is
abbrev pub card_charge_in : Item → Option Charge
card_charge_in item = option_and_then (λ (charge : Charge). if_card charge.sort charge) (charge_in item)

-- the refund that an item is
abbrev pub refund_in : Item → Option Refund
refund_in (item.Account account) = None
refund_in (item.Intent intent) = None
refund_in (item.Attempt attempt) = None
refund_in (item.Charge charge) = None
refund_in (item.Refund refund) = Some refund
refund_in (item.Dispute dispute) = None
refund_in (item.Transfer transfer) = None
refund_in (item.Reversal reversal) = None
refund_in (item.Fee fee) = None
refund_in (item.FeeRefund fee_refund) = None
refund_in (item.Txn txn) = None
refund_in (item.Event event) = None

-- the version of a dispute that an item is
abbrev pub dispute_in : Item → Option Dispute
dispute_in (item.Account account) = None
dispute_in (item.Intent intent) = None
dispute_in (item.Attempt attempt) = None
dispute_in (item.Charge charge) = None
dispute_in (item.Refund refund) = None
dispute_in (item.Dispute dispute) = Some dispute
dispute_in (item.Transfer transfer) = None
dispute_in (item.Reversal reversal) = None
dispute_in (item.Fee fee) = None
dispute_in (item.FeeRefund fee_refund) = None
dispute_in (item.Txn txn) = None
dispute_in (item.Event event) = None

-- the version of a transfer that an item is
abbrev pub transfer_in : Item → Option Transfer
transfer_in (item.Account account) = None
transfer_in (item.Intent intent) = None
transfer_in (item.Attempt attempt) = None
transfer_in (item.Charge charge) = None
transfer_in (item.Refund refund) = None
transfer_in (item.Dispute dispute) = None
transfer_in (item.Transfer transfer) = Some transfer
transfer_in (item.Reversal reversal) = None
transfer_in (item.Fee fee) = None
transfer_in (item.FeeRefund fee_refund) = None
transfer_in (item.Txn txn) = None
transfer_in (item.Event event) = None

-- the reversal that an item is
abbrev pub reversal_in : Item → Option Reversal
reversal_in (item.Account account) = None
reversal_in (item.Intent intent) = None
reversal_in (item.Attempt attempt) = None
reversal_in (item.Charge charge) = None
reversal_in (item.Refund refund) = None
reversal_in (item.Dispute dispute) = None
reversal_in (item.Transfer transfer) = None
reversal_in (item.Reversal reversal) = Some reversal
reversal_in (item.Fee fee) = None
reversal_in (item.FeeRefund fee_refund) = None
reversal_in (item.Txn txn) = None
reversal_in (item.Event event) = None

-- the version of an application fee that an item is
abbrev pub fee_in : Item → Option Fee
fee_in (item.Account account) = None
fee_in (item.Intent intent) = None
fee_in (item.Attempt attempt) = None
fee_in (item.Charge charge) = None
fee_in (item.Refund refund) = None
fee_in (item.Dispute dispute) = None
fee_in (item.Transfer transfer) = None
fee_in (item.Reversal reversal) = None
fee_in (item.Fee fee) = Some fee
fee_in (item.FeeRefund fee_refund) = None
fee_in (item.Txn txn) = None
fee_in (item.Event event) = None

-- the fee refund that an item is
abbrev pub fee_refund_in : Item → Option FeeRefund
fee_refund_in (item.Account account) = None
fee_refund_in (item.Intent intent) = None
fee_refund_in (item.Attempt attempt) = None
fee_refund_in (item.Charge charge) = None
fee_refund_in (item.Refund refund) = None
fee_refund_in (item.Dispute dispute) = None
fee_refund_in (item.Transfer transfer) = None
fee_refund_in (item.Reversal reversal) = None
fee_refund_in (item.Fee fee) = None
fee_refund_in (item.FeeRefund fee_refund) = Some fee_refund
fee_refund_in (item.Txn txn) = None
fee_refund_in (item.Event event) = None

-- the transaction that an item is
abbrev pub txn_in : Item → Option Txn
txn_in (item.Account account) = None
txn_in (item.Intent intent) = None
txn_in (item.Attempt attempt) = None
txn_in (item.Charge charge) = None
txn_in (item.Refund refund) = None
txn_in (item.Dispute dispute) = None
txn_in (item.Transfer transfer) = None
txn_in (item.Reversal reversal) = None
txn_in (item.Fee fee) = None
txn_in (item.FeeRefund fee_refund) = None
txn_in (item.Txn txn) = Some txn
txn_in (item.Event event) = None

-- the number of the latest charge of the payment intent that an item is, where it has one
abbrev pub latest_charge_in : Item → Option ℕ
latest_charge_in item = option_and_then (λ (intent : Intent). intent.latest_charge) (intent_in item)
