-- The parts of the transfer and of the application fee of a charge that its refund takes back and gives back.
use Rattle.std.specs.Prelude.{ℕ, ◌+◌, ◌==◌, ◌≤◌, min, if◌then◌else◌, List, Option, None, Some, Result, Ok, Err, codes, option_and_then, option_map}
use Rattle.ph_calls.specs.declared.call.CreateRefund.{CreateRefund}
use Rattle.ph_errors.specs.declared.api_error.ApiError.{ApiError}
use Rattle.ph_errors.specs.Table.{error_of, InvalidValue}
use Rattle.ph_items.specs.declared.charges.Capture.{Capture}
use Rattle.ph_items.specs.declared.charges.Charge.{Charge}
use Rattle.ph_items.specs.declared.fees.Fee.{Fee}
use Rattle.ph_items.specs.declared.transfers.Transfer.{Transfer}
use Rattle.ph_items.specs.Items.{fee_in, transfer_in}
use Rattle.ph_money.specs.Fees.{part_of}
use Rattle.ph_reversals.specs.FeeRefunds.{left_of_fee}
use Rattle.ph_reversals.specs.Reversals.{left_of_transfer}
use Rattle.ph_rows.specs.declared.rows.Row.{Row}
use Rattle.ph_rows.specs.Rows.{latest_of}
use Rattle.ph_refunds.specs.declared.parts.FeePart.{FeePart}
use Rattle.ph_refunds.specs.declared.parts.TransferPart.{TransferPart}

-- what a refund of an amount of a charge takes of a whole of which so much is left: all that is left, where the refund leaves nothing
-- of the charge; else the part of the whole that the amount is of what was captured, and no more than is left
abbrev pub part_taken : ℕ → ℕ → Charge → ℕ → ℕ
part_taken whole left charge amount =
    if charge.amount_refunded + amount == charge.amount_captured then left
    else min (part_of whole amount charge.amount_captured) left

-- the present version of the object of a number, where one is named
abbrev pub latest_named : List Row → Option ℕ → Option Row
latest_named rows number = option_and_then (λ n. latest_of n rows) number

-- ---- the transfer

-- no more is taken back of a transfer than is left of it
abbrev pub IsLeftOfTransfer : Option TransferPart → Type 0
IsLeftOfTransfer None = Unit {0}
IsLeftOfTransfer (Some part) = part.amount ≤ left_of_transfer part.transfer

-- a version of a transfer, in its row
pub record TransferVersion : Type 0 where
  pub row : Row
  pub transfer : Transfer

-- the version of a transfer in a row, where there is one
abbrev pub transfer_version : Row → Option TransferVersion
transfer_version row = option_map (λ (transfer : Transfer). record { row = row; transfer = transfer }) (transfer_in row.item)

-- the present version of the transfer that a charge keeps of its capture, where it has one
abbrev pub captured_transfer : List Row → Option Capture → Option TransferVersion
captured_transfer rows capture =
    option_and_then transfer_version (latest_named rows (option_and_then (λ (c : Capture). c.transfer) capture))

-- so much of a transfer; a part of 0 is none
abbrev pub transfer_part : TransferVersion → ℕ → Option TransferPart
transfer_part version amount =
    if amount == 0 then None
    else Some (record { object = version.row.object; account = version.row.account; transfer = version.transfer; amount = amount })

-- what a refund of an amount takes back of a transfer
abbrev pub transfer_taken : Charge → ℕ → TransferVersion → Option TransferPart
transfer_taken charge amount version =
    transfer_part version (part_taken version.transfer.amount (left_of_transfer version.transfer) charge amount)

-- the same, where there is one; else its parameter is refused
abbrev pub transfer_due : Charge → ℕ → Option TransferVersion → Result (Option TransferPart) ApiError
transfer_due charge amount None = Err (error_of (InvalidValue (codes "reverse_transfer")))
transfer_due charge amount (Some version) = Ok (transfer_taken charge amount version)

-- what a refund takes back of the transfer of its charge: nothing, where its call doesn't ask for it
abbrev pub transfer_asked : CreateRefund → Charge → ℕ → Option TransferVersion → Result (Option TransferPart) ApiError
transfer_asked call charge amount version = if call.reverse_transfer then transfer_due charge amount version else Ok None

-- ---- the application fee

-- no more is given back of an application fee than is left of it
abbrev pub IsLeftOfFee : Option FeePart → Type 0
IsLeftOfFee None = Unit {0}
IsLeftOfFee (Some part) = part.amount ≤ left_of_fee part.fee

-- a version of an application fee, in its row
pub record FeeVersion : Type 0 where
  pub row : Row
  pub fee : Fee

-- the version of an application fee in a row, where there is one
abbrev pub fee_version : Row → Option FeeVersion
fee_version row = option_map (λ (fee : Fee). record { row = row; fee = fee }) (fee_in row.item)

-- the present version of the application fee that a charge keeps of its capture, where it has one
abbrev pub captured_fee : List Row → Option Capture → Option FeeVersion
captured_fee rows capture = option_and_then fee_version (latest_named rows (option_and_then (λ (c : Capture). c.fee) capture))

-- so much of an application fee; a part of 0 is none
abbrev pub fee_part : FeeVersion → ℕ → Option FeePart
fee_part version amount =
    if amount == 0 then None
    else Some (record { object = version.row.object; account = version.row.account; fee = version.fee; amount = amount })

-- what a refund of an amount gives back of an application fee
abbrev pub fee_taken : Charge → ℕ → FeeVersion → Option FeePart
fee_taken charge amount version =
    fee_part version (part_taken version.fee.amount (left_of_fee version.fee) charge amount)

-- the same, where there is one; else its parameter is refused
abbrev pub fee_due : Charge → ℕ → Option FeeVersion → Result (Option FeePart) ApiError
fee_due charge amount None = Err (error_of (InvalidValue (codes "refund_application_fee")))
fee_due charge amount (Some version) = Ok (fee_taken charge amount version)

-- what a refund gives back of the application fee of its charge: nothing, where its call doesn't ask for it
abbrev pub fee_asked : CreateRefund → Charge → ℕ → Option FeeVersion → Result (Option FeePart) ApiError
fee_asked call charge amount version = if call.refund_application_fee then fee_due charge amount version else Ok None
