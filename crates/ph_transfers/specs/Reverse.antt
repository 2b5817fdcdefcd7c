-- The reversal of a transfer.
use Rattle.std.specs.Prelude.{ℕ, ◌+◌, List, None, unwrap_or, codes}
use Rattle.ph_base.specs.declared.ids.Kind.TheVariants as kind
use Rattle.ph_calls.specs.declared.call.ReverseTransfer.{ReverseTransfer}
use Rattle.ph_facts.specs.Outcomes.{Outcome, Adds}
use Rattle.ph_facts.specs.Touches.{Untouched}
use Rattle.ph_items.specs.declared.transfers.Transfer.{Transfer}
use Rattle.ph_items.specs.Items.{transfer_in}
use Rattle.ph_kinds.specs.Kept.{first_metadata}
use Rattle.ph_reversals.specs.Reversals.{left_of_transfer, with_reversal, with_reversed}
use Rattle.ph_rows.specs.declared.rows.Row.{Row}
use Rattle.ph_rows.specs.Batches.{BatchState, last_place}
use Rattle.ph_rows.specs.Names.{owned_named}
use Rattle.ph_transfers.specs.Found.{made_of_row, made_within}

-- the batch with the reversal of an amount of a transfer of an account, which no refund made, and the transfer's version
abbrev pub reversal_rows : ReverseTransfer → Row → Transfer → BatchState → ℕ → BatchState
reversal_rows call row transfer batch amount =
    with_reversed row.account row.object transfer amount
    (with_reversal row.object transfer amount None (first_metadata call.metadata) batch)

-- the reversal of an amount; the answer is the reversal
abbrev pub reverse_amount : ReverseTransfer → BatchState → Row → Transfer → ℕ → Outcome
reverse_amount call batch row transfer amount =
    Adds Untouched (last_place batch + 1) (reversal_rows call row transfer batch amount)

-- the reversal of what a call names, or else of all that is left of the transfer
abbrev pub reverse_of : ReverseTransfer → BatchState → Row → Transfer → Outcome
reverse_of call batch row transfer =
    made_within (reverse_amount call batch row transfer) (left_of_transfer transfer)
    (unwrap_or call.amount (left_of_transfer transfer))

-- the reversal of the account's transfer that a path names
abbrev pub reverse_outcome : List Row → ℕ → ReverseTransfer → BatchState → Outcome
reverse_outcome rows account call batch =
    made_of_row (reverse_of call batch) transfer_in (codes "id") (owned_named rows account kind.Transfer call.id)
