-- The laws of transfers, reversals and fee refunds.
use Rattle.std.specs.Prelude.{◌≡◌, ℕ, List, codes}
use Rattle.ph_base.specs.declared.ids.Kind.TheVariants as kind
use Rattle.ph_calls.specs.declared.call.CreateTransfer.{CreateTransfer}
use Rattle.ph_calls.specs.declared.call.RefundFee.{RefundFee}
use Rattle.ph_calls.specs.declared.call.ReverseTransfer.{ReverseTransfer}
use Rattle.ph_facts.specs.Amounts.{given_back_of, reversed_of, transferred_of}
use Rattle.ph_facts.specs.Outcomes.{Outcome}
use Rattle.ph_facts.specs.Sound.{IsSound}
use Rattle.ph_items.specs.declared.charges.Charge.{Charge}
use Rattle.ph_items.specs.declared.fees.Fee.{Fee}
use Rattle.ph_items.specs.declared.transfers.Transfer.{Transfer}
use Rattle.ph_items.specs.Items.{fee_in, transfer_in}
use Rattle.ph_items.specs.Weights.{with_text}
use Rattle.ph_kinds.specs.Kept.{named_texts}
use Rattle.ph_rows.specs.declared.rows.Row.{Row}
use Rattle.ph_rows.specs.Batches.{BatchState}
use Rattle.ph_rows.specs.Names.{owned_named}
use Rattle.ph_rows.specs.Views.{ViewState}
use Rattle.ph_transfers.specs.Create.{transfer_of, transfer_outcome, transfer_with}
use Rattle.ph_transfers.specs.Found.{made_of_row}
use Rattle.ph_transfers.specs.RefundFee.{refund_fee_of, refund_fee_outcome}
use Rattle.ph_transfers.specs.Reverse.{reverse_of, reverse_outcome}

-- ---- the texts of the calls that their rows keep

abbrev pub transfer_texts : CreateTransfer → List (List ℕ)
transfer_texts call = with_text call.description (with_text call.transfer_group (named_texts call.metadata))

abbrev pub reverse_texts : ReverseTransfer → List (List ℕ)
reverse_texts call = named_texts call.metadata

abbrev pub refund_fee_texts : RefundFee → List (List ℕ)
refund_fee_texts call = named_texts call.metadata

-- ---- the calls as sums decide

-- a version of a charge, with the sum of the transfers that are drawn on it in place of the amount that it keeps
abbrev pub summed_charge : List Row → Row → Charge → Charge
summed_charge rows row charge = record charge { amount_transferred = transferred_of row.object rows }

-- the transfer as the sum of the charge's transfers decides
abbrev pub transfer_by_sum : ℕ → List Row → ℕ → CreateTransfer → BatchState → Outcome
transfer_by_sum now rows account call batch =
    transfer_with (λ destination row charge. transfer_of call batch destination row (summed_charge rows row charge)) now rows account call batch

-- over sound rows a transfer comes to what the sum decides
abbrev pub TransfersAreSums : Type 0
TransfersAreSums =
    (state : ViewState) (account : ℕ) (call : CreateTransfer) (batch : BatchState) → IsSound state
    → transfer_outcome state.time state.rows account call batch ≡ transfer_by_sum state.time state.rows account call batch

-- a version of a transfer, with the sum of its reversals in place of the amount that it keeps
abbrev pub summed_transfer : List Row → Row → Transfer → Transfer
summed_transfer rows row transfer = record transfer { amount_reversed = reversed_of row.object rows }

-- the reversal as the sum of the transfer's reversals decides
abbrev pub reverse_by_sum : List Row → ℕ → ReverseTransfer → BatchState → Outcome
reverse_by_sum rows account call batch =
    made_of_row (λ row transfer. reverse_of call batch row (summed_transfer rows row transfer)) transfer_in (codes "id")
    (owned_named rows account kind.Transfer call.id)

-- over sound rows a reversal comes to what the sum decides
abbrev pub ReversalsAreSums : Type 0
ReversalsAreSums =
    (state : ViewState) (account : ℕ) (call : ReverseTransfer) (batch : BatchState) → IsSound state
    → reverse_outcome state.rows account call batch ≡ reverse_by_sum state.rows account call batch

-- a version of an application fee, with the sum of its refunds in place of the amount that it keeps
abbrev pub summed_fee : List Row → Row → Fee → Fee
summed_fee rows row fee = record fee { amount_refunded = given_back_of row.object rows }

-- the fee refund as the sum of the fee's refunds decides
abbrev pub refund_fee_by_sum : List Row → ℕ → RefundFee → BatchState → Outcome
refund_fee_by_sum rows account call batch =
    made_of_row (λ row fee. refund_fee_of call batch row (summed_fee rows row fee)) fee_in (codes "id")
    (owned_named rows account kind.Fee call.id)

-- over sound rows a fee refund comes to what the sum decides
abbrev pub FeeRefundsAreSums : Type 0
FeeRefundsAreSums =
    (state : ViewState) (account : ℕ) (call : RefundFee) (batch : BatchState) → IsSound state
    → refund_fee_outcome state.rows account call batch ≡ refund_fee_by_sum state.rows account call batch
