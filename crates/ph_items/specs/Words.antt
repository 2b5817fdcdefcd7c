-- The words that are printed for statuses, capture methods, types and reasons; what an event type speaks of.
use Rattle.std.specs.Prelude.{ℕ, List, codes}
use Rattle.ph_base.specs.declared.ids.Kind.{Kind}
use Rattle.ph_base.specs.declared.ids.Kind.TheVariants as kind
use Rattle.ph_items.specs.declared.accounts.AccountType.{AccountType}
use Rattle.ph_items.specs.declared.accounts.AccountType.TheVariants as account_type
use Rattle.ph_items.specs.declared.intents.IntentStatus.{IntentStatus}
use Rattle.ph_items.specs.declared.intents.IntentStatus.TheVariants as status
use Rattle.ph_items.specs.declared.intents.CaptureMethod.{CaptureMethod}
use Rattle.ph_items.specs.declared.intents.CaptureMethod.TheVariants as capture_method
use Rattle.ph_items.specs.declared.intents.CancellationReason.{CancellationReason}
use Rattle.ph_items.specs.declared.intents.CancellationReason.TheVariants as reason
use Rattle.ph_items.specs.declared.charges.ChargeStatus.{ChargeStatus}
use Rattle.ph_items.specs.declared.charges.ChargeStatus.TheVariants as charge_status
use Rattle.ph_items.specs.declared.transactions.TxnType.{TxnType}
use Rattle.ph_items.specs.declared.transactions.TxnType.TheVariants as txn_type
use Rattle.ph_items.specs.declared.refunds.RefundReason.{RefundReason}
use Rattle.ph_items.specs.declared.refunds.RefundReason.TheVariants as refund_reason
use Rattle.ph_items.specs.declared.disputes.DisputeStatus.{DisputeStatus}
use Rattle.ph_items.specs.declared.disputes.DisputeStatus.TheVariants as dispute_status
use Rattle.ph_items.specs.declared.event_kinds.EventKind.{EventKind}
use Rattle.ph_items.specs.declared.event_kinds.EventKind.TheVariants as event

-- the word of an account's type
abbrev pub account_type_text : AccountType → List ℕ
account_type_text account_type.Standard = codes "standard"
account_type_text account_type.Express = codes "express"
account_type_text account_type.Custom = codes "custom"

-- the word of a status
abbrev pub status_text : IntentStatus → List ℕ
status_text status.RequiresPaymentMethod = codes "requires_payment_method"
status_text status.RequiresConfirmation = codes "requires_confirmation"
status_text status.RequiresAction = codes "requires_action"
status_text status.Processing = codes "processing"
status_text status.RequiresCapture = codes "requires_capture"
status_text status.Succeeded = codes "succeeded"
status_text status.Canceled = codes "canceled"

-- the word of a capture method
abbrev pub capture_method_text : CaptureMethod → List ℕ
capture_method_text capture_method.Automatic = codes "automatic"
capture_method_text capture_method.AutomaticAsync = codes "automatic_async"
capture_method_text capture_method.Manual = codes "manual"

-- the word of a reason for a cancel
abbrev pub cancellation_reason_text : CancellationReason → List ℕ
cancellation_reason_text reason.Duplicate = codes "duplicate"
cancellation_reason_text reason.Fraudulent = codes "fraudulent"
cancellation_reason_text reason.RequestedByCustomer = codes "requested_by_customer"
cancellation_reason_text reason.Abandoned = codes "abandoned"

-- the word of a charge's status
abbrev pub charge_status_text : ChargeStatus → List ℕ
charge_status_text charge_status.Succeeded = codes "succeeded"
charge_status_text charge_status.Failed = codes "failed"

-- the word of a transaction's type
abbrev pub txn_type_text : TxnType → List ℕ
txn_type_text txn_type.Charge = codes "charge"
txn_type_text txn_type.Payment = codes "payment"
txn_type_text txn_type.Refund = codes "refund"
txn_type_text txn_type.Transfer = codes "transfer"
txn_type_text txn_type.ApplicationFee = codes "application_fee"
txn_type_text txn_type.ApplicationFeeRefund = codes "application_fee_refund"
txn_type_text txn_type.Adjustment = codes "adjustment"

-- the word of a reason for a refund
abbrev pub refund_reason_text : RefundReason → List ℕ
refund_reason_text refund_reason.Duplicate = codes "duplicate"
refund_reason_text refund_reason.Fraudulent = codes "fraudulent"
refund_reason_text refund_reason.RequestedByCustomer = codes "requested_by_customer"

-- the word of a dispute's status
abbrev pub dispute_status_text : DisputeStatus → List ℕ
dispute_status_text dispute_status.NeedsResponse = codes "needs_response"
dispute_status_text dispute_status.UnderReview = codes "under_review"
dispute_status_text dispute_status.Won = codes "won"
dispute_status_text dispute_status.Lost = codes "lost"

-- the text of an event type
abbrev pub event_text : EventKind → List ℕ
event_text event.IntentCreated = codes "payment_intent.created"
event_text event.IntentSucceeded = codes "payment_intent.succeeded"
event_text event.IntentPaymentFailed = codes "payment_intent.payment_failed"
event_text event.IntentCanceled = codes "payment_intent.canceled"
event_text event.IntentAmountCapturableUpdated = codes "payment_intent.amount_capturable_updated"
event_text event.IntentRequiresAction = codes "payment_intent.requires_action"
event_text event.ChargeSucceeded = codes "charge.succeeded"
event_text event.ChargeFailed = codes "charge.failed"
event_text event.ChargeCaptured = codes "charge.captured"
event_text event.ChargeRefunded = codes "charge.refunded"
event_text event.DisputeCreated = codes "charge.dispute.created"
event_text event.DisputeClosed = codes "charge.dispute.closed"
event_text event.TransferCreated = codes "transfer.created"
event_text event.TransferReversed = codes "transfer.reversed"
event_text event.FeeCreated = codes "application_fee.created"
event_text event.FeeRefunded = codes "application_fee.refunded"

-- the kind of the objects that an event type speaks of
abbrev pub subject_of : EventKind → Kind
subject_of event.IntentCreated = kind.Intent
subject_of event.IntentSucceeded = kind.Intent
subject_of event.IntentPaymentFailed = kind.Intent
subject_of event.IntentCanceled = kind.Intent
subject_of event.IntentAmountCapturableUpdated = kind.Intent
subject_of event.IntentRequiresAction = kind.Intent
subject_of event.ChargeSucceeded = kind.Charge
subject_of event.ChargeFailed = kind.Charge
subject_of event.ChargeCaptured = kind.Charge
subject_of event.ChargeRefunded = kind.Charge
subject_of event.DisputeCreated = kind.Dispute
subject_of event.DisputeClosed = kind.Dispute
subject_of event.TransferCreated = kind.Transfer
subject_of event.TransferReversed = kind.Transfer
subject_of event.FeeCreated = kind.Fee
subject_of event.FeeRefunded = kind.Fee
