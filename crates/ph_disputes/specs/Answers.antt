-- The evidence against a dispute, and what the customer's bank decides on it.
use Rattle.std.specs.Prelude.{ℕ, ◌+◌, pos, if◌then◌else◌, List, Some, codes}
use Rattle.std.specs.Str.{bytes_eq}
use Rattle.ph_calls.specs.declared.call.SendEvidence.{SendEvidence}
use Rattle.ph_facts.specs.Outcomes.{Outcome}
use Rattle.ph_rows.specs.declared.rows.Row.{Row}
use Rattle.ph_items.specs.declared.disputes.Dispute.{Dispute}
use Rattle.ph_items.specs.declared.disputes.DisputeStatus.{DisputeStatus}
use Rattle.ph_items.specs.declared.disputes.DisputeStatus.TheVariants as status
use Rattle.ph_items.specs.declared.items.Item.TheVariants as item
use Rattle.ph_items.specs.declared.transactions.Txn.{Txn}
use Rattle.ph_items.specs.declared.transactions.TxnSource.TheVariants as source
use Rattle.ph_items.specs.declared.transactions.TxnType.TheVariants as sort
use Rattle.ph_rows.specs.Batches.{BatchState, last_place, with_row}
use Rattle.ph_disputes.specs.Closing.{with_closed, with_version}
use Rattle.ph_disputes.specs.Finding.{if_open, made_at}

-- where a text leaves a dispute: two texts decide it, and any other is under review
abbrev pub verdict_on : List ℕ → DisputeStatus
verdict_on text =
    if bytes_eq text (codes "winning_evidence") then status.Won
    else if bytes_eq text (codes "losing_evidence") then status.Lost
    else status.UnderReview

-- a dispute with a text as evidence, and where that leaves it
abbrev pub answered_dispute : List ℕ → Dispute → Dispute
answered_dispute text dispute = record dispute { status = verdict_on text; evidence = Some text }

-- the transaction that gives the amount of a dispute back now: the fee doesn't come back
abbrev pub given_txn : ℕ → Dispute → ℕ → Txn
given_txn object dispute now = record {
  sort = sort.Adjustment;
  amount = pos dispute.amount;
  fee = pos 0;
  currency = dispute.currency;
  available_on = now;
  source = source.Dispute object;
}

-- the batch with the transaction that gives back the amount of the dispute in a row
abbrev pub with_given : Row → Dispute → BatchState → BatchState
with_given row dispute batch =
    with_row batch (last_place batch + 1) row.account (item.Txn (given_txn row.object dispute batch.at))

-- the batch with what follows from the status of the dispute in a row: won, its amount comes back, and this is told;
-- lost, this is told
abbrev pub with_verdict : DisputeStatus → Row → Dispute → BatchState → BatchState
with_verdict status.NeedsResponse row dispute batch = batch
with_verdict status.UnderReview row dispute batch = batch
with_verdict status.Won row dispute batch = with_closed row (with_given row dispute batch)
with_verdict status.Lost row dispute batch = with_closed row batch

-- the batch with a text as evidence against the dispute in a row
abbrev pub with_evidence : List ℕ → Row → Dispute → BatchState → BatchState
with_evidence text row dispute batch =
    with_verdict (verdict_on text) row dispute (with_version row (answered_dispute text dispute) batch)

-- the evidence against the dispute in a row, where it isn't closed
abbrev pub evidence_of : List ℕ → BatchState → Row → Dispute → Outcome
evidence_of text batch row dispute = if_open dispute.status row.object (with_evidence text row dispute batch)

-- the evidence against the dispute that the path names
abbrev pub evidence_outcome : List Row → ℕ → SendEvidence → BatchState → Outcome
evidence_outcome rows account call batch = made_at (evidence_of call.uncategorized_text batch) rows account call.id
