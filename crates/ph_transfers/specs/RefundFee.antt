-- The refund of an application fee.
use Rattle.std.specs.Prelude.{ℕ, ◌+◌, List, unwrap_or, codes}
use Rattle.ph_base.specs.declared.ids.Kind.TheVariants as kind
use Rattle.ph_calls.specs.declared.call.RefundFee.{RefundFee}
use Rattle.ph_facts.specs.Outcomes.{Outcome, Adds}
use Rattle.ph_facts.specs.Touches.{Untouched}
use Rattle.ph_items.specs.declared.fees.Fee.{Fee}
use Rattle.ph_items.specs.Items.{fee_in}
use Rattle.ph_kinds.specs.Kept.{first_metadata}
use Rattle.ph_reversals.specs.FeeRefunds.{left_of_fee, with_fee_refund, with_given_back}
use Rattle.ph_rows.specs.declared.rows.Row.{Row}
use Rattle.ph_rows.specs.Batches.{BatchState, last_place}
use Rattle.ph_rows.specs.Names.{owned_named}
use Rattle.ph_transfers.specs.Found.{made_of_row, made_within}

-- the batch with the refund of an amount of an application fee of an account, and the fee's version
abbrev pub fee_refund_rows : RefundFee → Row → Fee → BatchState → ℕ → BatchState
fee_refund_rows call row fee batch amount =
    with_given_back row.account row.object fee amount
    (with_fee_refund row.object fee amount (first_metadata call.metadata) batch)

-- the refund of an amount; the answer is the fee refund
abbrev pub refund_fee_amount : RefundFee → BatchState → Row → Fee → ℕ → Outcome
refund_fee_amount call batch row fee amount = Adds Untouched (last_place batch + 1) (fee_refund_rows call row fee batch amount)

-- the refund of what a call names, or else of all that is left of the fee
abbrev pub refund_fee_of : RefundFee → BatchState → Row → Fee → Outcome
refund_fee_of call batch row fee =
    made_within (refund_fee_amount call batch row fee) (left_of_fee fee) (unwrap_or call.amount (left_of_fee fee))

-- the refund of the account's application fee that a path names
abbrev pub refund_fee_outcome : List Row → ℕ → RefundFee → BatchState → Outcome
refund_fee_outcome rows account call batch =
    made_of_row (refund_fee_of call batch) fee_in (codes "id") (owned_named rows account kind.Fee call.id)
