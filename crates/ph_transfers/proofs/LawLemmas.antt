-- The laws of transfers, reversals and fee refunds.
use Rattle.std.specs.Prelude.{◌==◌, int_lt, pos, unwrap_or, codes}
use Rattle.std.proofs.Common.{◌≡◌, ℕ, Bool, true, false, cond, List, Option, None, Some, refl, ap, arith}
use Rattle.std.proofs.lemmas.Bool.{cond_both}
use Rattle.ph_accounts.specs.Naming.{connected_named}
use Rattle.ph_base.specs.declared.ids.Kind.TheVariants as kind
use Rattle.ph_calls.specs.declared.call.CreateTransfer.{CreateTransfer}
use Rattle.ph_errors.specs.Table.{Problem, error_of, BalanceInsufficient, InvalidValue, NoSuchObject, PlatformOnly}
use Rattle.ph_items.specs.declared.charges.Capture.{Capture}
use Rattle.ph_items.specs.declared.charges.Charge.{Charge}
use Rattle.ph_items.specs.declared.fees.Fee.{Fee}
use Rattle.ph_items.specs.declared.transfers.Transfer.{Transfer}
use Rattle.ph_items.specs.Accounts.{platform}
use Rattle.ph_items.specs.Charges.{charge_kind}
use Rattle.ph_items.specs.Items.{charge_in, fee_in, transfer_in}
use Rattle.ph_items.specs.Movements.{currency_number}
use Rattle.ph_rows.specs.declared.rows.Row.{Row}
use Rattle.ph_rows.specs.Balances.{available_of}
use Rattle.ph_rows.specs.Batches.{BatchState}
use Rattle.ph_rows.specs.Names.{object_named, owned_named}
use Rattle.ph_rows.specs.Views.{ViewState}
use Rattle.ph_facts.specs.Keeps.{KeepsRows, KeepsSound, batch_after}
use Rattle.ph_facts.specs.Outcomes.{Outcome, Refuses}
use Rattle.ph_facts.specs.Sound.{IsSound}
use Rattle.ph_facts.proofs.DoneLemmas.{Refusing, no_object, of_platform, funds_short, wrong_value}
use Rattle.ph_facts.proofs.PresentLemmas.{IsCharge, IsFee, IsTransfer, charge_says, fee_says, transfer_says}
use Rattle.ph_reversals.specs.FeeRefunds.{left_of_fee}
use Rattle.ph_reversals.specs.Reversals.{left_of_transfer}
use Rattle.ph_transfers.specs.Create.{transfer_by, transfer_from, transfer_left, transfer_made, transfer_of, transfer_of_balance, transfer_outcome, transfer_to, transfer_with}
use Rattle.ph_transfers.specs.Entry.{Drawn, left_to_transfer}
use Rattle.ph_transfers.specs.Found.{is_too_much, made_within}
use Rattle.ph_transfers.specs.Laws.{FeeRefundsAreSums, ReversalsAreSums, TransfersAreSums, refund_fee_texts, reverse_texts, summed_charge, summed_fee, summed_transfer, transfer_texts}
use Rattle.ph_transfers.specs.RefundFee.{refund_fee_amount, refund_fee_of, refund_fee_outcome}
use Rattle.ph_transfers.specs.Reverse.{reverse_amount, reverse_of, reverse_outcome}
use Rattle.ph_transfers.proofs.EntryLemmas.{transfer_enters}
use Rattle.ph_transfers.proofs.FoundLemmas.{alike_row, charge_at, fee_at, kept_within, transfer_at, within_left}
use Rattle.ph_transfers.proofs.ReturnLemmas.{fee_refund_enters, reversal_enters}

-- ---- reversals

-- over sound rows a reversal comes to what the sum of the transfer's reversals decides
pub reversal_sums : ReversalsAreSums
reversal_sums state account call batch sound =
    alike_row (λ one other. one ≡ other) (reverse_of call batch)
    (λ row transfer. reverse_of call batch row (summed_transfer state.rows row transfer)) transfer_in (codes "id")
    (owned_named state.rows account kind.Transfer call.id) (λ problem is. refl)
    (λ row transfer named is.
    ap (λ (n : ℕ). reverse_of call batch row (record transfer { amount_reversed = n }))
    (transfer_says state.rows row transfer sound.laws (transfer_at state account call.id row transfer sound named is)))

-- what a reversal adds may be entered
pub reverse_keeps : KeepsSound reverse_texts 5 reverse_outcome
reverse_keeps state entry account call ready texts =
    alike_row (λ outcome again. KeepsRows state 5 outcome) (reverse_of call begun) (reverse_of call begun) transfer_in (codes "id")
    (owned_named state.rows account kind.Transfer call.id) (λ problem is. is)
    (λ row transfer named is.
    of_amount row transfer (unwrap_or call.amount (left_of_transfer transfer))
    (transfer_at state account call.id row transfer ready.sound named is))
  where
    begun : BatchState
    begun = batch_after state entry

    of_amount : (row : Row) (transfer : Transfer) (amount : ℕ) → IsTransfer state.rows row transfer
        → KeepsRows state 5 (made_within (reverse_amount call begun row transfer) (left_of_transfer transfer) amount)
    of_amount row transfer amount found =
        kept_within state 5 (reverse_amount call begun row transfer) (left_of_transfer transfer) amount (λ within. (
          record { enters = reversal_enters state entry call row transfer amount ready texts found within; few = omega arith; shown = refl },
          tt,
        ))

-- ---- fee refunds

-- over sound rows a fee refund comes to what the sum of the fee's refunds decides
pub fee_refund_sums : FeeRefundsAreSums
fee_refund_sums state account call batch sound =
    alike_row (λ one other. one ≡ other) (refund_fee_of call batch) (λ row fee. refund_fee_of call batch row (summed_fee state.rows row fee))
    fee_in (codes "id") (owned_named state.rows account kind.Fee call.id) (λ problem is. refl)
    (λ row fee named is.
    ap (λ (n : ℕ). refund_fee_of call batch row (record fee { amount_refunded = n }))
    (fee_says state.rows row fee sound.laws (fee_at state account call.id row fee sound named is)))

-- what a fee refund adds may be entered
pub refund_fee_keeps : KeepsSound refund_fee_texts 5 refund_fee_outcome
refund_fee_keeps state entry account call ready texts =
    alike_row (λ outcome again. KeepsRows state 5 outcome) (refund_fee_of call begun) (refund_fee_of call begun) fee_in (codes "id")
    (owned_named state.rows account kind.Fee call.id) (λ problem is. is)
    (λ row fee named is.
    of_amount row fee (unwrap_or call.amount (left_of_fee fee)) (fee_at state account call.id row fee ready.sound named is))
  where
    begun : BatchState
    begun = batch_after state entry

    of_amount : (row : Row) (fee : Fee) (amount : ℕ) → IsFee state.rows row fee
        → KeepsRows state 5 (made_within (refund_fee_amount call begun row fee) (left_of_fee fee) amount)
    of_amount row fee amount found =
        kept_within state 5 (refund_fee_amount call begun row fee) (left_of_fee fee) amount (λ within. (
          record { enters = fee_refund_enters state entry call row fee amount ready texts found within; few = omega arith; shown = refl },
          tt,
        ))

-- ---- transfers

-- what two operations make of one of two outcomes is alike, where it is of each
alike_if : (P : Outcome → Outcome → Type 0) (b : Bool) (first second other : Outcome) → P first second → P other other
    → P (cond b first other) (cond b second other)
alike_if P true first second other taken left = taken
alike_if P false first second other taken left = left

-- what two operations make of the charge that a transfer is drawn on is alike, where it is for each card charge among the rows
alike_transfer : (P : Outcome → Outcome → Type 0) (state : ViewState) (now : ℕ) (first second : ℕ → Row → Charge → Outcome) (account : ℕ)
    (call : CreateTransfer) (batch : BatchState) → IsSound state
    → ((problem : Problem) → Refusing problem → P (Refuses (error_of problem)) (Refuses (error_of problem)))
    → ((destination : ℕ) → P (transfer_of_balance now state.rows call batch destination) (transfer_of_balance now state.rows call batch destination))
    → ((destination : ℕ) (row : Row) (charge : Charge) → IsCharge state.rows row charge → charge_kind charge.sort ≡ kind.Charge
    → P (first destination row charge) (second destination row charge))
    → P (transfer_with first now state.rows account call batch) (transfer_with second now state.rows account call batch)
alike_transfer P state now first second account call batch sound refuses balance each =
    alike_if P (account == platform) (transfer_to first now state.rows call batch (connected_named state.rows call.destination))
    (transfer_to second now state.rows call batch (connected_named state.rows call.destination)) (Refuses (error_of PlatformOnly))
    (to (connected_named state.rows call.destination)) (refuses PlatformOnly of_platform)
  where
    from : (destination : ℕ) (source : Option (List ℕ))
        → P (transfer_from first now state.rows call batch destination source) (transfer_from second now state.rows call batch destination source)
    from destination None = balance destination
    from destination (Some text) =
        alike_row P (first destination) (second destination) charge_in (codes "source_transaction") (object_named state.rows kind.Charge text) refuses
        (λ row charge named is. let found = charge_at state text row charge sound named is in each destination row charge found.0 found.1)

    to : (found : Option ℕ) → P (transfer_to first now state.rows call batch found) (transfer_to second now state.rows call batch found)
    to None = refuses (NoSuchObject (codes "destination")) (no_object (codes "destination"))
    to (Some destination) = from destination call.source_transaction

-- over sound rows a transfer comes to what the sum of the charge's transfers decides
pub transfer_sums : TransfersAreSums
transfer_sums state account call batch sound =
    alike_transfer (λ one other. one ≡ other) state state.time (transfer_of call batch)
    (λ destination row charge. transfer_of call batch destination row (summed_charge state.rows row charge)) account call batch sound
    (λ problem is. refl) (λ destination. refl)
    (λ destination row charge found card.
    ap (λ (n : ℕ). transfer_of call batch destination row (record charge { amount_transferred = n }))
    (charge_says state.rows row charge sound.laws found).transferred)

-- what a transfer adds may be entered
pub transfer_keeps : (now : ℕ) → KeepsSound transfer_texts 6 (transfer_outcome now)
transfer_keeps now state entry account call ready texts =
    alike_transfer (λ outcome again. KeepsRows state 6 outcome) state now (transfer_of call begun) (transfer_of call begun) account call begun
    ready.sound (λ problem is. is) of_balance (λ destination row charge found card. by destination row charge found card charge.capture)
  where
    begun : BatchState
    begun = batch_after state entry

    of_balance : (destination : ℕ) → KeepsRows state 6 (transfer_of_balance now state.rows call begun destination)
    of_balance destination =
        cond_both (int_lt (available_of platform call.currency now state.rows) (pos call.amount)) (Refuses (error_of BalanceInsufficient))
        (transfer_made call destination None begun) (KeepsRows state 6) (λ above. funds_short)
        (λ within. (
          record { enters = transfer_enters state entry call destination None ready texts tt; few = omega arith; shown = refl },
          tt,
        ))

    of_left : (destination : ℕ) (drawn : Drawn) → IsCharge state.rows drawn.row drawn.charge → charge_kind drawn.charge.sort ≡ kind.Charge
        → KeepsRows state 6 (transfer_left call begun destination drawn)
    of_left destination drawn found card =
        cond_both (is_too_much (left_to_transfer drawn.charge) call.amount) (Refuses (error_of (InvalidValue (codes "amount"))))
        (transfer_made call destination (Some drawn) begun) (KeepsRows state 6) (λ above. wrong_value (codes "amount"))
        (λ fits. let fitting = within_left (left_to_transfer drawn.charge) call.amount fits in (
          record {
            enters = transfer_enters state entry call destination (Some drawn) ready texts
                (record { found = found; card = card; some = fitting.0; within = fitting.1 });
            few = omega arith;
            shown = refl;
          },
          tt,
        ))

    by : (destination : ℕ) (row : Row) (charge : Charge) → IsCharge state.rows row charge → charge_kind charge.sort ≡ kind.Charge
        → (capture : Option Capture) → KeepsRows state 6 (transfer_by call begun destination row charge capture)
    by destination row charge found card None = no_object (codes "source_transaction")
    by destination row charge found card (Some capture) =
        cond_both (currency_number call.currency == currency_number charge.currency)
        (transfer_left call begun destination (record { row = row; charge = charge; capture = capture })) (Refuses (error_of (InvalidValue (codes "currency"))))
        (KeepsRows state 6) (λ same. of_left destination (record { row = row; charge = charge; capture = capture }) found card)
        (λ differs. wrong_value (codes "currency"))
