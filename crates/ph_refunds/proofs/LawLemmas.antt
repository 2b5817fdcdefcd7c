-- The laws of refunds.
use Rattle.std.specs.Prelude.{◌==◌, nat_lt, unwrap_or, codes}
use Rattle.std.proofs.Common.{◌≡◌, ℕ, ◌+◌, ◌≤◌, ◌<◌, false, eqb, [], Option, None, Some, length, refl, ap, ◌∙◌, arith}
use Rattle.std.proofs.lemmas.Bool.{cond_both, eqb-false}
use Rattle.std.proofs.lemmas.Bool.Decides.{nat_tests}
use Rattle.ph_facts.proofs.DoneLemmas.{already_refunded, charge_disputed, not_captured, wrong_value}
use Rattle.ph_facts.specs.Keeps.{KeepsRows, KeepsSound, MayBeAdded, batch_after}
use Rattle.ph_facts.specs.Outcomes.{Refuses}
use Rattle.ph_facts.specs.Shown.{shown_in}
use Rattle.ph_facts.specs.Touches.{Untouched}
use Rattle.ph_errors.specs.Table.{error_of, ChargeAlreadyRefunded, ChargeDisputed, InvalidValue}
use Rattle.ph_rows.specs.declared.rows.Row.{Row}
use Rattle.ph_items.specs.declared.charges.Capture.{Capture}
use Rattle.ph_base.specs.declared.ids.Kind.TheVariants as kind
use Rattle.ph_items.specs.declared.charges.Charge.{Charge}
use Rattle.ph_items.specs.Charges.{charge_kind}
use Rattle.ph_rows.specs.Batches.{BatchState}
use Rattle.ph_facts.proofs.PresentLemmas.{IsCharge, charge_says}
use Rattle.ph_refunds.specs.declared.parts.FeePart.{FeePart}
use Rattle.ph_refunds.specs.declared.parts.TransferPart.{TransferPart}
use Rattle.ph_refunds.specs.Entry.{refund_rows}
use Rattle.ph_refunds.specs.Laws.{RefundsAreSums, refund_texts, summed, summed_charge, summed_transfer}
use Rattle.ph_refunds.specs.Parts.{FeeVersion, TransferVersion, captured_fee, captured_transfer, fee_asked}
use Rattle.ph_refunds.specs.Refunds.{Refundable, is_disputed, left_of, refund_amount, refund_asked, refund_by, refund_left, refund_of, refund_outcome, refund_parts, refundable, with_part}
use Rattle.ph_refunds.proofs.AskedLemmas.{fee_keeps, fee_summed, transfer_keeps, transfer_summed}
use Rattle.ph_refunds.proofs.EntryLemmas.{AreFeePart, AreTransferPart, refund_enters}
use Rattle.ph_refunds.proofs.FoundLemmas.{alike_at}

-- over sound rows a refund comes to what the sums of the charge's refunds, of its transfer's reversals and of its application fee's
-- refunds decide
pub refund_sums : RefundsAreSums
refund_sums state account call batch sound =
    alike_at (λ one other. one ≡ other) state (λ row charge. refund_of state.rows call batch (refundable state.rows row charge))
    (λ row charge. refund_of state.rows call batch (summed state.rows (refundable state.rows row charge))) call.charge
    call.payment_intent sound (λ problem is. refl) (λ row charge found card. ap (refund_of state.rows call batch) (same row charge found))
  where
    same : (row : Row) (charge : Charge) → IsCharge state.rows row charge
        → refundable state.rows row charge ≡ summed state.rows (refundable state.rows row charge)
    same row charge found =
        ap (λ (n : ℕ). record (refundable state.rows row charge) { charge = record charge { amount_refunded = n } })
        (charge_says state.rows row charge sound.laws found).refunded
        ∙ ap (λ (t : Option TransferVersion). record (refundable state.rows row charge) { charge = summed_charge state.rows row.object charge; transfer = t })
        (transfer_summed state charge.capture sound)
        ∙ ap (λ (f : Option FeeVersion). record (summed state.rows (refundable state.rows row charge)) { fee = f })
        (fee_summed state charge.capture sound)

-- a number that isn't above another is at most it
not_above : (left amount : ℕ) → nat_lt left amount ≡ false → amount ≤ left
not_above left amount e = grind (arith, nat_tests)

-- a number that isn't 0 is above it
not_none : (left : ℕ) → eqb left 0 ≡ false → 0 < left
not_none left e = let some : left ≡ 0 → ⊥ = eqb-false left 0 e in grind arith

-- what a refund adds may be entered
pub refund_keeps : KeepsSound refund_texts 14 refund_outcome
refund_keeps state entry account call ready texts =
    alike_at (λ outcome again. KeepsRows state 14 outcome) state (λ row charge. refund_of state.rows call begun (refundable state.rows row charge))
    (λ row charge. refund_of state.rows call begun (refundable state.rows row charge)) call.charge
    call.payment_intent ready.sound (λ problem is. is) (λ row charge found card. by row charge found card charge.capture)
  where
    begun : BatchState
    begun = batch_after state entry

    few : (row : Row) (charge : Charge) (capture : Capture) (amount : ℕ) (transfer : Option TransferPart) (fee : Option FeePart)
        → length (refund_rows call row.account row.object charge capture amount transfer fee begun).rows
        + length (refund_rows call row.account row.object charge capture amount transfer fee begun).announced ≤ 14
    few row charge capture amount None None = omega arith
    few row charge capture amount None (Some fee) = omega arith
    few row charge capture amount (Some transfer) None = omega arith
    few row charge capture amount (Some transfer) (Some fee) = omega arith

    silent : (row : Row) (charge : Charge) (capture : Capture) (amount : ℕ) (transfer : Option TransferPart) (fee : Option FeePart)
        → shown_in (refund_rows call row.account row.object charge capture amount transfer fee begun).rows ≡ []
    silent row charge capture amount None None = refl
    silent row charge capture amount None (Some fee) = refl
    silent row charge capture amount (Some transfer) None = refl
    silent row charge capture amount (Some transfer) (Some fee) = refl

    of_parts : (row : Row) (charge : Charge) (capture : Capture) (amount : ℕ) (transfer : Option TransferPart) (fee : Option FeePart)
        → IsCharge state.rows row charge → charge_kind charge.sort ≡ kind.Charge → 0 < left_of charge → amount ≤ left_of charge
        → AreTransferPart state.rows transfer → AreFeePart state.rows fee
        → KeepsRows state 14 (refund_parts call begun (refundable state.rows row charge) capture amount transfer fee)
    of_parts row charge capture amount transfer fee found card some within of_transfer of_fee = (
      record {
        enters = refund_enters state entry call row charge capture amount transfer fee ready texts found card some within of_transfer of_fee;
        few = few row charge capture amount transfer fee;
        shown = silent row charge capture amount transfer fee;
      },
      tt,
    )

    of_asked : (row : Row) (charge : Charge) (capture : Capture) (amount : ℕ) → IsCharge state.rows row charge
        → charge_kind charge.sort ≡ kind.Charge → 0 < left_of charge → amount ≤ left_of charge
        → KeepsRows state 14 (refund_asked call begun (refundable state.rows row charge) capture amount)
    of_asked row charge capture amount found card some within =
        transfer_keeps state 14 call charge amount
        (λ transfer. with_part (refund_parts call begun (refundable state.rows row charge) capture amount transfer)
        (fee_asked call charge amount (captured_fee state.rows charge.capture))) ready.sound
        (λ transfer of_transfer. fee_keeps state 14 call charge amount
        (refund_parts call begun (refundable state.rows row charge) capture amount transfer) ready.sound
        (λ fee of_fee. of_parts row charge capture amount transfer fee found card some within of_transfer of_fee))

    of_amount : (row : Row) (charge : Charge) (capture : Capture) (amount : ℕ) → IsCharge state.rows row charge
        → charge_kind charge.sort ≡ kind.Charge → 0 < left_of charge
        → KeepsRows state 14 (refund_amount call begun (refundable state.rows row charge) capture amount)
    of_amount row charge capture amount found card some =
        cond_both (nat_lt (left_of charge) amount) (Refuses (error_of (InvalidValue (codes "amount"))))
        (refund_asked call begun (refundable state.rows row charge) capture amount) (KeepsRows state 14)
        (λ above. wrong_value (codes "amount"))
        (λ within. of_asked row charge capture amount found card some (not_above (left_of charge) amount within))

    of_left : (row : Row) (charge : Charge) (capture : Capture) → IsCharge state.rows row charge
        → charge_kind charge.sort ≡ kind.Charge → KeepsRows state 14 (refund_left call begun (refundable state.rows row charge) capture)
    of_left row charge capture found card =
        cond_both (left_of charge == 0) (Refuses (error_of ChargeAlreadyRefunded))
        (refund_amount call begun (refundable state.rows row charge) capture (unwrap_or call.amount (left_of charge))) (KeepsRows state 14)
        (λ none. already_refunded)
        (λ some. of_amount row charge capture (unwrap_or call.amount (left_of charge)) found card (not_none (left_of charge) some))

    by : (row : Row) (charge : Charge) → IsCharge state.rows row charge → charge_kind charge.sort ≡ kind.Charge
        → (capture : Option Capture)
        → KeepsRows state 14 (refund_by state.rows call begun (refundable state.rows row charge) capture)
    by row charge found card None = not_captured
    by row charge found card (Some capture) =
        cond_both (is_disputed state.rows charge.dispute) (Refuses (error_of ChargeDisputed))
        (refund_left call begun (refundable state.rows row charge) capture) (KeepsRows state 14) (λ disputed. charge_disputed)
        (λ undisputed. of_left row charge capture found card)
