-- The refund.
use Rattle.std.specs.Prelude.{ℕ, ◌+◌, ◌-◌, Bool, true, false, ◌==◌, not, nat_lt, if◌then◌else◌, List, Option, None, Some, Result, Ok, Err, unwrap_or, codes, option_and_then}
use Rattle.ph_calls.specs.declared.call.CreateRefund.{CreateRefund}
use Rattle.ph_facts.specs.Outcomes.{Outcome, Refuses, Adds}
use Rattle.ph_facts.specs.Touches.{Untouched}
use Rattle.ph_errors.specs.declared.api_error.ApiError.{ApiError}
use Rattle.ph_errors.specs.Table.{error_of, ChargeNotCaptured, ChargeDisputed, ChargeAlreadyRefunded, InvalidValue}
use Rattle.ph_rows.specs.declared.rows.Row.{Row}
use Rattle.ph_items.specs.declared.charges.Capture.{Capture}
use Rattle.ph_items.specs.declared.charges.Charge.{Charge}
use Rattle.ph_items.specs.declared.disputes.Dispute.{Dispute}
use Rattle.ph_items.specs.declared.disputes.DisputeStatus.{DisputeStatus}
use Rattle.ph_items.specs.declared.disputes.DisputeStatus.TheVariants as status
use Rattle.ph_rows.specs.Batches.{BatchState, last_place}
use Rattle.ph_items.specs.Items.{dispute_in}
use Rattle.ph_rows.specs.Rows.{latest_of}
use Rattle.ph_refunds.specs.Entry.{refund_rows}
use Rattle.ph_refunds.specs.Finding.{made_at}
use Rattle.ph_refunds.specs.declared.parts.FeePart.{FeePart}
use Rattle.ph_refunds.specs.declared.parts.TransferPart.{TransferPart}
use Rattle.ph_refunds.specs.Parts.{FeeVersion, TransferVersion, captured_fee, captured_transfer, fee_asked, transfer_asked}

-- the status is that of a dispute that is won
abbrev pub is_won : DisputeStatus → Bool
is_won status.NeedsResponse = false
is_won status.UnderReview = false
is_won status.Won = true
is_won status.Lost = false

-- a version of a dispute is there, and the dispute is won
abbrev pub is_won_by : Option Dispute → Bool
is_won_by None = false
is_won_by (Some dispute) = is_won dispute.status

-- the present version of the dispute of a number
abbrev pub dispute_of : List Row → ℕ → Option Dispute
dispute_of rows number = option_and_then (λ row. dispute_in row.item) (latest_of number rows)

-- a charge with this dispute, or none, is disputed: it has one that isn't won
abbrev pub is_disputed : List Row → Option ℕ → Bool
is_disputed rows None = false
is_disputed rows (Some number) = not (is_won_by (dispute_of rows number))

-- what can still be refunded of a charge: what was captured, less what was refunded
abbrev pub left_of : Charge → ℕ
left_of charge = charge.amount_captured - charge.amount_refunded

-- a version of a charge that is to be refunded, in its row, and the present versions of its transfer and its application fee, where
-- it has them
pub record Refundable : Type 0 where
  pub row : Row
  pub charge : Charge
  pub transfer : Option TransferVersion
  pub fee : Option FeeVersion

abbrev pub refundable : List Row → Row → Charge → Refundable
refundable rows row charge = record {
  row = row;
  charge = charge;
  transfer = captured_transfer rows charge.capture;
  fee = captured_fee rows charge.capture;
}

-- what is made with a part, or its error
abbrev pub with_part : {P : Type 0} → (Option P → Outcome) → Result (Option P) ApiError → Outcome
with_part make (Ok part) = make part
with_part make (Err error) = Refuses error

-- the refund of an amount and of these parts; the answer is the refund
abbrev pub refund_parts : CreateRefund → BatchState → Refundable → Capture → ℕ → Option TransferPart → Option FeePart → Outcome
refund_parts call batch of capture amount transfer fee =
    Adds Untouched (last_place batch + 1)
    (refund_rows call of.row.account of.row.object of.charge capture amount transfer fee batch)

-- the refund of an amount, with the parts for which its call asks
abbrev pub refund_asked : CreateRefund → BatchState → Refundable → Capture → ℕ → Outcome
refund_asked call batch of capture amount =
    with_part (λ transfer. with_part (refund_parts call batch of capture amount transfer) (fee_asked call of.charge amount of.fee))
    (transfer_asked call of.charge amount of.transfer)

-- the refund of an amount, which is no more than what is left
abbrev pub refund_amount : CreateRefund → BatchState → Refundable → Capture → ℕ → Outcome
refund_amount call batch of capture amount =
    if nat_lt (left_of of.charge) amount then Refuses (error_of (InvalidValue (codes "amount")))
    else refund_asked call batch of capture amount

-- the refund of what a call names, or else of all that is left, where something is
abbrev pub refund_left : CreateRefund → BatchState → Refundable → Capture → Outcome
refund_left call batch of capture =
    if left_of of.charge == 0 then Refuses (error_of ChargeAlreadyRefunded)
    else refund_amount call batch of capture (unwrap_or call.amount (left_of of.charge))

-- the refund of a captured charge, where it isn't disputed
abbrev pub refund_captured : List Row → CreateRefund → BatchState → Refundable → Capture → Outcome
refund_captured rows call batch of capture =
    if is_disputed rows of.charge.dispute then Refuses (error_of ChargeDisputed)
    else refund_left call batch of capture

-- the refund of a charge with this capture, or none: one that is captured
abbrev pub refund_by : List Row → CreateRefund → BatchState → Refundable → Option Capture → Outcome
refund_by rows call batch of None = Refuses (error_of ChargeNotCaptured)
refund_by rows call batch of (Some capture) = refund_captured rows call batch of capture

-- the refund of what is to be refunded
abbrev pub refund_of : List Row → CreateRefund → BatchState → Refundable → Outcome
refund_of rows call batch of = refund_by rows call batch of of.charge.capture

-- the refund of the charge that a call names, whatever the charge's account
abbrev pub refund_outcome : List Row → ℕ → CreateRefund → BatchState → Outcome
refund_outcome rows account call batch =
    made_at (λ row charge. refund_of rows call batch (refundable rows row charge)) rows call.charge call.payment_intent
