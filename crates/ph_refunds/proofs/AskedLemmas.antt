-- The parts of a transfer and of an application fee for which a refund asks, among sound rows.
use Rattle.std.specs.Prelude.{◌==◌, min, codes, option_and_then, option_map}
use Rattle.std.proofs.Common.{◌≡◌, ℕ, ◌+◌, ◌≤◌, List, Option, None, Some, Ok, refl, ap, ◌∙◌, subst, arith}
use Rattle.std.proofs.lemmas.Bool.{cond_both}
use Rattle.ph_calls.specs.declared.call.CreateRefund.{CreateRefund}
use Rattle.ph_errors.specs.Table.{error_of, InvalidValue}
use Rattle.ph_items.specs.declared.charges.Capture.{Capture}
use Rattle.ph_items.specs.declared.charges.Charge.{Charge}
use Rattle.ph_items.specs.declared.fees.Fee.{Fee}
use Rattle.ph_items.specs.declared.transfers.Transfer.{Transfer}
use Rattle.ph_items.specs.Items.{fee_in, transfer_in}
use Rattle.ph_money.specs.Fees.{part_of}
use Rattle.ph_rows.specs.declared.rows.Row.{Row}
use Rattle.ph_rows.specs.Rows.{latest_of}
use Rattle.ph_rows.specs.Views.{ViewState}
use Rattle.ph_facts.specs.Keeps.{KeepsRows}
use Rattle.ph_facts.specs.Outcomes.{Outcome}
use Rattle.ph_facts.specs.Sound.{IsSound}
use Rattle.ph_facts.proofs.DoneLemmas.{wrong_value}
use Rattle.ph_facts.proofs.PresentLemmas.{IsFee, IsTransfer, fee_found, fee_says, transfer_found, transfer_says}
use Rattle.ph_reversals.specs.FeeRefunds.{left_of_fee}
use Rattle.ph_reversals.specs.Reversals.{left_of_transfer}
use Rattle.ph_refunds.specs.declared.parts.FeePart.{FeePart}
use Rattle.ph_refunds.specs.declared.parts.TransferPart.{TransferPart}
use Rattle.ph_refunds.specs.Laws.{summed_fee, summed_transfer}
use Rattle.ph_refunds.specs.Parts.{FeeVersion, TransferVersion, captured_fee, captured_transfer, fee_asked, fee_due, fee_taken, fee_version, latest_named, part_taken, transfer_asked, transfer_due, transfer_taken, transfer_version}
use Rattle.ph_refunds.specs.Refunds.{with_part}
use Rattle.ph_refunds.proofs.EntryLemmas.{AreFeePart, AreTransferPart}

-- a refund takes no more of a whole than is left of it
part_left : (whole left : ℕ) (charge : Charge) (amount : ℕ) → part_taken whole left charge amount ≤ left
part_left whole left charge amount =
    cond_both (charge.amount_refunded + amount == charge.amount_captured) left (min (part_of whole amount charge.amount_captured) left)
    (λ (n : ℕ). n ≤ left) (λ all. omega arith) (λ part. omega arith)

-- ---- the transfer

-- the present version of the transfer of a number, where one is named, is one
named_transfer : (state : ViewState) (number : Option ℕ) (version : TransferVersion) → IsSound state
    → option_and_then transfer_version (latest_named state.rows number) ≡ Some version
    → IsTransfer state.rows version.row version.transfer
named_transfer state None version sound e = absurd (cc)
named_transfer state (Some number) version sound e = at (latest_of number state.rows) refl e
  where
    in_row : (row : Row) → latest_of number state.rows ≡ Some row → (found : Option Transfer) → transfer_in row.item ≡ found
        → option_map (λ (transfer : Transfer). record { row = row; transfer = transfer }) found ≡ Some version
        → IsTransfer state.rows version.row version.transfer
    in_row row latest None is e = absurd (cc)
    in_row row latest (Some transfer) is e =
        let same : record { row = row; transfer = transfer } ≡ version = cc in
        subst (λ (v : TransferVersion). IsTransfer state.rows v.row v.transfer) same
        (transfer_found state number row transfer sound latest is).0

    at : (found : Option Row) → latest_of number state.rows ≡ found → option_and_then transfer_version found ≡ Some version
        → IsTransfer state.rows version.row version.transfer
    at None latest e = absurd (cc)
    at (Some row) latest e = in_row row latest (transfer_in row.item) refl e

-- the transfer that a charge keeps of its capture
captured_transfer_is : (state : ViewState) (capture : Option Capture) (version : TransferVersion) → IsSound state
    → captured_transfer state.rows capture ≡ Some version → IsTransfer state.rows version.row version.transfer
captured_transfer_is state capture version sound e =
    named_transfer state (option_and_then (λ (c : Capture). c.transfer) capture) version sound e

-- what was reversed of it is the sum of its reversals
pub transfer_summed : (state : ViewState) (capture : Option Capture) → IsSound state
    → captured_transfer state.rows capture ≡ option_map (summed_transfer state.rows) (captured_transfer state.rows capture)
transfer_summed state capture sound = at (captured_transfer state.rows capture) refl
  where
    at : (found : Option TransferVersion) → captured_transfer state.rows capture ≡ found
        → found ≡ option_map (summed_transfer state.rows) found
    at None e = refl
    at (Some version) e =
        ap (λ (n : ℕ). Some (record version { transfer = record version.transfer { amount_reversed = n } }))
        (transfer_says state.rows version.row version.transfer sound.laws (captured_transfer_is state capture version sound e))

-- what is made with the part for which a refund asks keeps the rows, where it does with each part that stands
pub transfer_keeps : (state : ViewState) (most : ℕ) (call : CreateRefund) (charge : Charge) (amount : ℕ)
    (make : Option TransferPart → Outcome) → IsSound state
    → ((part : Option TransferPart) → AreTransferPart state.rows part → KeepsRows state most (make part))
    → KeepsRows state most (with_part make (transfer_asked call charge amount (captured_transfer state.rows charge.capture)))
transfer_keeps state most call charge amount make sound each =
    cond_both call.reverse_transfer (transfer_due charge amount (captured_transfer state.rows charge.capture)) (Ok None)
    (λ asked. KeepsRows state most (with_part make asked)) (λ asks. due (captured_transfer state.rows charge.capture) refl)
    (λ not. each None tt)
  where
    taken : (version : TransferVersion) → IsTransfer state.rows version.row version.transfer
        → AreTransferPart state.rows (transfer_taken charge amount version)
    taken version found =
        let part : ℕ = part_taken version.transfer.amount (left_of_transfer version.transfer) charge amount in
        cond_both (part == 0) None
        (Some (record { object = version.row.object; account = version.row.account; transfer = version.transfer; amount = part }))
        (AreTransferPart state.rows) (λ none. tt)
        (λ some. record {
          row = version.row;
          found = found;
          object = refl;
          account = refl;
          within = part_left version.transfer.amount (left_of_transfer version.transfer) charge amount;
        })

    due : (found : Option TransferVersion) → captured_transfer state.rows charge.capture ≡ found
        → KeepsRows state most (with_part make (transfer_due charge amount found))
    due None e = wrong_value (codes "reverse_transfer")
    due (Some version) e =
        each (transfer_taken charge amount version) (taken version (captured_transfer_is state charge.capture version sound e))

-- ---- the application fee

-- the present version of the application fee of a number, where one is named, is one
named_fee : (state : ViewState) (number : Option ℕ) (version : FeeVersion) → IsSound state
    → option_and_then fee_version (latest_named state.rows number) ≡ Some version → IsFee state.rows version.row version.fee
named_fee state None version sound e = absurd (cc)
named_fee state (Some number) version sound e = at (latest_of number state.rows) refl e
  where
    in_row : (row : Row) → latest_of number state.rows ≡ Some row → (found : Option Fee) → fee_in row.item ≡ found
        → option_map (λ (fee : Fee). record { row = row; fee = fee }) found ≡ Some version → IsFee state.rows version.row version.fee
    in_row row latest None is e = absurd (cc)
    in_row row latest (Some fee) is e =
        let same : record { row = row; fee = fee } ≡ version = cc in
        subst (λ (v : FeeVersion). IsFee state.rows v.row v.fee) same (fee_found state number row fee sound latest is).0

    at : (found : Option Row) → latest_of number state.rows ≡ found → option_and_then fee_version found ≡ Some version
        → IsFee state.rows version.row version.fee
    at None latest e = absurd (cc)
    at (Some row) latest e = in_row row latest (fee_in row.item) refl e

-- the application fee that a charge keeps of its capture
captured_fee_is : (state : ViewState) (capture : Option Capture) (version : FeeVersion) → IsSound state
    → captured_fee state.rows capture ≡ Some version → IsFee state.rows version.row version.fee
captured_fee_is state capture version sound e =
    named_fee state (option_and_then (λ (c : Capture). c.fee) capture) version sound e

-- what was given back of it is the sum of its refunds
pub fee_summed : (state : ViewState) (capture : Option Capture) → IsSound state
    → captured_fee state.rows capture ≡ option_map (summed_fee state.rows) (captured_fee state.rows capture)
fee_summed state capture sound = at (captured_fee state.rows capture) refl
  where
    at : (found : Option FeeVersion) → captured_fee state.rows capture ≡ found → found ≡ option_map (summed_fee state.rows) found
    at None e = refl
    at (Some version) e =
        ap (λ (n : ℕ). Some (record version { fee = record version.fee { amount_refunded = n } }))
        (fee_says state.rows version.row version.fee sound.laws (captured_fee_is state capture version sound e))

-- what is made with the part for which a refund asks keeps the rows, where it does with each part that stands
pub fee_keeps : (state : ViewState) (most : ℕ) (call : CreateRefund) (charge : Charge) (amount : ℕ) (make : Option FeePart → Outcome)
    → IsSound state → ((part : Option FeePart) → AreFeePart state.rows part → KeepsRows state most (make part))
    → KeepsRows state most (with_part make (fee_asked call charge amount (captured_fee state.rows charge.capture)))
fee_keeps state most call charge amount make sound each =
    cond_both call.refund_application_fee (fee_due charge amount (captured_fee state.rows charge.capture)) (Ok None)
    (λ asked. KeepsRows state most (with_part make asked)) (λ asks. due (captured_fee state.rows charge.capture) refl)
    (λ not. each None tt)
  where
    taken : (version : FeeVersion) → IsFee state.rows version.row version.fee → AreFeePart state.rows (fee_taken charge amount version)
    taken version found =
        let part : ℕ = part_taken version.fee.amount (left_of_fee version.fee) charge amount in
        cond_both (part == 0) None
        (Some (record { object = version.row.object; account = version.row.account; fee = version.fee; amount = part }))
        (AreFeePart state.rows) (λ none. tt)
        (λ some. record {
          row = version.row;
          found = found;
          object = refl;
          account = refl;
          within = part_left version.fee.amount (left_of_fee version.fee) charge amount;
        })

    due : (found : Option FeeVersion) → captured_fee state.rows charge.capture ≡ found
        → KeepsRows state most (with_part make (fee_due charge amount found))
    due None e = wrong_value (codes "refund_application_fee")
    due (Some version) e = each (fee_taken charge amount version) (taken version (captured_fee_is state charge.capture version sound e))
