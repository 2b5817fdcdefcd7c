-- The item of which there is a version of a kind is that version.
use Rattle.std.proofs.Common.{◌≡◌, Some, ap}
use Rattle.ph_items.specs.declared.charges.Charge.{Charge}
use Rattle.ph_items.specs.declared.disputes.Dispute.{Dispute}
use Rattle.ph_items.specs.declared.fee_refunds.FeeRefund.{FeeRefund}
use Rattle.ph_items.specs.declared.fees.Fee.{Fee}
use Rattle.ph_items.specs.declared.items.Item.{Item}
use Rattle.ph_items.specs.declared.items.Item.TheVariants as item
use Rattle.ph_items.specs.declared.refunds.Refund.{Refund}
use Rattle.ph_items.specs.declared.reversals.Reversal.{Reversal}
use Rattle.ph_items.specs.declared.transactions.Txn.{Txn}
use Rattle.ph_items.specs.declared.transfers.Transfer.{Transfer}
use Rattle.ph_items.specs.Items.{charge_in, dispute_in, fee_in, fee_refund_in, refund_in, reversal_in, transfer_in, txn_in}

pub charge_is : (content : Item) (charge : Charge) → charge_in content ≡ Some charge → content ≡ item.Charge charge
charge_is (item.Charge version) charge e = (let same : version ≡ charge = cc in ap (λ (c : Charge). item.Charge c) same)
charge_is other charge e = absurd (cc)

pub refund_is : (content : Item) (refund : Refund) → refund_in content ≡ Some refund → content ≡ item.Refund refund
refund_is (item.Refund version) refund e = (let same : version ≡ refund = cc in ap (λ (r : Refund). item.Refund r) same)
refund_is other refund e = absurd (cc)

pub dispute_is : (content : Item) (dispute : Dispute) → dispute_in content ≡ Some dispute → content ≡ item.Dispute dispute
dispute_is (item.Dispute version) dispute e = (let same : version ≡ dispute = cc in ap (λ (d : Dispute). item.Dispute d) same)
dispute_is other dispute e = absurd (cc)

pub transfer_is : (content : Item) (transfer : Transfer) → transfer_in content ≡ Some transfer → content ≡ item.Transfer transfer
transfer_is (item.Transfer version) transfer e = (let same : version ≡ transfer = cc in ap (λ (t : Transfer). item.Transfer t) same)
transfer_is other transfer e = absurd (cc)

pub reversal_is : (content : Item) (reversal : Reversal) → reversal_in content ≡ Some reversal → content ≡ item.Reversal reversal
reversal_is (item.Reversal version) reversal e = (let same : version ≡ reversal = cc in ap (λ (r : Reversal). item.Reversal r) same)
reversal_is other reversal e = absurd (cc)

pub fee_is : (content : Item) (fee : Fee) → fee_in content ≡ Some fee → content ≡ item.Fee fee
fee_is (item.Fee version) fee e = (let same : version ≡ fee = cc in ap (λ (f : Fee). item.Fee f) same)
fee_is other fee e = absurd (cc)

pub fee_refund_is : (content : Item) (refund : FeeRefund) → fee_refund_in content ≡ Some refund → content ≡ item.FeeRefund refund
fee_refund_is (item.FeeRefund version) refund e = (let same : version ≡ refund = cc in ap (λ (r : FeeRefund). item.FeeRefund r) same)
fee_refund_is other refund e = absurd (cc)

pub txn_is : (content : Item) (txn : Txn) → txn_in content ≡ Some txn → content ≡ item.Txn txn
txn_is (item.Txn version) txn e = (let same : version ≡ txn = cc in ap (λ (t : Txn). item.Txn t) same)
txn_is other txn e = absurd (cc)
