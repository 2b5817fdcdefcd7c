-- The laws of refunds.
use Rattle.std.specs.Prelude.{◌≡◌, ℕ, List, option_map}
use Rattle.ph_calls.specs.declared.call.CreateRefund.{CreateRefund}
use Rattle.ph_facts.specs.Outcomes.{Outcome}
use Rattle.ph_kinds.specs.Kept.{named_texts}
use Rattle.ph_rows.specs.declared.rows.Row.{Row}
use Rattle.ph_items.specs.declared.charges.Charge.{Charge}
use Rattle.ph_rows.specs.Batches.{BatchState}
use Rattle.ph_facts.specs.Sound.{IsSound}
use Rattle.ph_facts.specs.Amounts.{given_back_of, refunded_of, reversed_of}
use Rattle.ph_rows.specs.Views.{ViewState}
use Rattle.ph_refunds.specs.Finding.{made_at}
use Rattle.ph_refunds.specs.Parts.{FeeVersion, TransferVersion}
use Rattle.ph_refunds.specs.Refunds.{Refundable, refund_of, refund_outcome, refundable}

-- the texts of a call that its refund keeps
abbrev pub refund_texts : CreateRefund → List (List ℕ)
refund_texts call = named_texts call.metadata

-- a version of a charge, with the sum of its refunds in place of the refunded amount that it keeps
abbrev pub summed_charge : List Row → ℕ → Charge → Charge
summed_charge rows object charge = record charge { amount_refunded = refunded_of object rows }

-- a version of a transfer, with the sum of its reversals in place of the reversed amount that it keeps
abbrev pub summed_transfer : List Row → TransferVersion → TransferVersion
summed_transfer rows version =
    record version { transfer = record version.transfer { amount_reversed = reversed_of version.row.object rows } }

-- a version of an application fee, with the sum of its refunds in place of the amount that it keeps
abbrev pub summed_fee : List Row → FeeVersion → FeeVersion
summed_fee rows version = record version { fee = record version.fee { amount_refunded = given_back_of version.row.object rows } }

-- what is to be refunded, with the sums in place of the amounts that its versions keep
abbrev pub summed : List Row → Refundable → Refundable
summed rows of = record of {
  charge = summed_charge rows of.row.object of.charge;
  transfer = option_map (summed_transfer rows) of.transfer;
  fee = option_map (summed_fee rows) of.fee;
}

-- the refund as the sums of the charge's refunds, of its transfer's reversals and of its application fee's refunds decide
abbrev pub refund_by_sum : List Row → ℕ → CreateRefund → BatchState → Outcome
refund_by_sum rows account call batch =
    made_at (λ row charge. refund_of rows call batch (summed rows (refundable rows row charge))) rows call.charge
    call.payment_intent

-- over sound rows a refund comes to what the sums decide
abbrev pub RefundsAreSums : Type 0
RefundsAreSums =
    (state : ViewState) (account : ℕ) (call : CreateRefund) (batch : BatchState) → IsSound state
    → refund_outcome state.rows account call batch ≡ refund_by_sum state.rows account call batch
