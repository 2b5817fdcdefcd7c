-- The rows of a reversal and of a fee refund may be entered.
use Rattle.std.specs.List.{list_any}
use Rattle.std.specs.Prelude.{◌||◌}
use Rattle.std.proofs.Common.{◌≡◌, ℕ, ◌+◌, ◌≤◌, Bool, false, None, length, refl, ap, arith}
use Rattle.ph_base.specs.declared.ids.Kind.TheVariants as kind
use Rattle.ph_calls.specs.declared.call.RefundFee.{RefundFee}
use Rattle.ph_calls.specs.declared.call.ReverseTransfer.{ReverseTransfer}
use Rattle.ph_items.specs.declared.fees.Fee.{Fee}
use Rattle.ph_items.specs.declared.items.Item.TheVariants as item
use Rattle.ph_items.specs.declared.transfers.Transfer.{Transfer}
use Rattle.ph_items.specs.Accounts.{platform}
use Rattle.ph_items.specs.Weights.{AreUtf8}
use Rattle.ph_kinds.specs.Kept.{first_metadata}
use Rattle.ph_kinds.proofs.KeptLemmas.{first_kept}
use Rattle.ph_rows.specs.declared.rows.Row.{Row}
use Rattle.ph_rows.specs.Batches.{BatchState, last_place, next_row}
use Rattle.ph_rows.specs.Views.{ViewState}
use Rattle.ph_facts.specs.Amounts.{captured, given_back, moved, refunded, reversed, transferred}
use Rattle.ph_facts.specs.Entering.{MayBeEntered}
use Rattle.ph_facts.specs.Keeps.{IsReady, batch_after}
use Rattle.ph_facts.specs.Order.{IsInOrder}
use Rattle.ph_facts.proofs.AmountLemmas.{further_is_quiet}
use Rattle.ph_facts.proofs.LawLemmas.{AreSpoken}
use Rattle.ph_facts.proofs.OrderLemmas.{origin_stands}
use Rattle.ph_facts.proofs.PresentLemmas.{IsFee, IsTransfer, fee_says, transfer_says}
use Rattle.ph_facts.proofs.SpokenLemmas.{spoken_none}
use Rattle.ph_facts.proofs.TallyLemmas.{speaks}
use Rattle.ph_reversals.specs.FeeRefunds.{given_back_fee, left_of_fee, new_fee_refund, with_fee_refund}
use Rattle.ph_reversals.specs.Reversals.{left_of_transfer, new_reversal, reversed_transfer, with_reversal}
use Rattle.ph_reversals.proofs.FeeRefundLemmas.{fee_refund_spoken, room_fee_refund, room_given_back}
use Rattle.ph_reversals.proofs.ReversalLemmas.{reversal_spoken, room_reversal, room_reversed}
use Rattle.ph_reversals.proofs.RoomLemmas.{HasRoom, begun_behind, entered_as, isnt_later, room_after}
use Rattle.ph_transfers.specs.Laws.{refund_fee_texts, reverse_texts}
use Rattle.ph_transfers.specs.RefundFee.{fee_refund_rows}
use Rattle.ph_transfers.specs.Reverse.{reversal_rows}

-- the reversal of an amount that is left of a transfer
pub reversal_enters : (state : ViewState) (entry : ℕ) (call : ReverseTransfer) (row : Row) (transfer : Transfer) (amount : ℕ) → IsReady state
    → AreUtf8 (reverse_texts call) → IsTransfer state.rows row transfer → amount ≤ left_of_transfer transfer
    → MayBeEntered state (reversal_rows call row transfer (batch_after state entry) amount)
reversal_enters state entry call row transfer amount ready texts found within =
    entered_as state batch batch.rows ready.sound roomy.underway refl spoken (tt, (tt, (tt, (tt, tt))))
  where
    begun : BatchState
    begun = batch_after state entry

    reversing : BatchState
    reversing = with_reversal row.object transfer amount None (first_metadata call.metadata) begun

    batch : BatchState
    batch = reversal_rows call row transfer begun amount

    order : IsInOrder state
    order = ready.sound.order

    roomy : HasRoom state batch 60
    roomy =
        room_reversed state reversing row transfer amount 60 order
        (room_reversal state begun row.object transfer amount None (first_metadata call.metadata) 61 order (room_after state entry ready)
        (first_kept call.metadata texts)
        (begun_behind state begun kind.Transfer row.object (origin_stands state row (item.Transfer transfer) order found.stands found.is)) tt)
        found within

    made : Row
    made =
        next_row begun (last_place begun + 1) platform
        (item.Reversal (new_reversal (last_place begun + 1) row.object transfer amount None (first_metadata call.metadata)))

    version : Row
    version = next_row reversing row.object row.account (item.Transfer (reversed_transfer amount transfer))

    further : version.object ≡ version.place → ⊥
    further = isnt_later state row version.place order found.stands (let place : version.place ≡ length state.rows + 4 = omega arith in omega arith)

    quiet : list_any (speaks transferred) batch.rows ≡ false
    quiet = ap (λ (b : Bool). b || false) (further_is_quiet version (reversed_transfer amount transfer) refl further)

    spoken : AreSpoken state.rows batch.rows
    spoken = record {
      charges = record {
        captured = spoken_none captured state.rows batch.rows refl;
        refunded = spoken_none refunded state.rows batch.rows refl;
        transferred = spoken_none transferred state.rows batch.rows quiet;
      };
      reversed = reversal_spoken state.rows batch.rows made version
          (new_reversal (last_place begun + 1) row.object transfer amount None (first_metadata call.metadata)) (reversed_transfer amount transfer)
          refl refl refl refl (ap (λ (n : ℕ). n + amount) (transfer_says state.rows row transfer ready.sound.laws found));
      given_back = spoken_none given_back state.rows batch.rows refl;
      moved = spoken_none moved state.rows batch.rows refl;
    }

-- the refund of an amount that is left of an application fee
pub fee_refund_enters : (state : ViewState) (entry : ℕ) (call : RefundFee) (row : Row) (fee : Fee) (amount : ℕ) → IsReady state
    → AreUtf8 (refund_fee_texts call) → IsFee state.rows row fee → amount ≤ left_of_fee fee
    → MayBeEntered state (fee_refund_rows call row fee (batch_after state entry) amount)
fee_refund_enters state entry call row fee amount ready texts found within =
    entered_as state batch batch.rows ready.sound roomy.underway refl spoken (tt, (tt, (tt, (tt, tt))))
  where
    begun : BatchState
    begun = batch_after state entry

    giving : BatchState
    giving = with_fee_refund row.object fee amount (first_metadata call.metadata) begun

    batch : BatchState
    batch = fee_refund_rows call row fee begun amount

    order : IsInOrder state
    order = ready.sound.order

    roomy : HasRoom state batch 60
    roomy =
        room_given_back state giving row fee amount 60 order
        (room_fee_refund state begun row.object fee amount (first_metadata call.metadata) 61 order (room_after state entry ready)
        (first_kept call.metadata texts)
        (begun_behind state begun kind.Fee row.object (origin_stands state row (item.Fee fee) order found.stands found.is)))
        found within

    made : Row
    made =
        next_row begun (last_place begun + 1) platform
        (item.FeeRefund (new_fee_refund (last_place begun + 1) row.object fee amount (first_metadata call.metadata)))

    version : Row
    version = next_row giving row.object row.account (item.Fee (given_back_fee amount fee))

    spoken : AreSpoken state.rows batch.rows
    spoken = record {
      charges = record {
        captured = spoken_none captured state.rows batch.rows refl;
        refunded = spoken_none refunded state.rows batch.rows refl;
        transferred = spoken_none transferred state.rows batch.rows refl;
      };
      reversed = spoken_none reversed state.rows batch.rows refl;
      given_back = fee_refund_spoken state.rows batch.rows made version
          (new_fee_refund (last_place begun + 1) row.object fee amount (first_metadata call.metadata)) (given_back_fee amount fee)
          refl refl refl refl (ap (λ (n : ℕ). n + amount) (fee_says state.rows row fee ready.sound.laws found));
      moved = spoken_none moved state.rows batch.rows refl;
    }
