-- The close of a dispute, which gives it up.
use Rattle.std.specs.Prelude.{ℕ, List}
use Rattle.ph_calls.specs.declared.call.CloseDispute.{CloseDispute}
use Rattle.ph_facts.specs.Outcomes.{Outcome}
use Rattle.ph_rows.specs.declared.rows.Row.{Row}
use Rattle.ph_items.specs.declared.disputes.Dispute.{Dispute}
use Rattle.ph_items.specs.declared.disputes.DisputeStatus.TheVariants as status
use Rattle.ph_items.specs.declared.event_kinds.EventKind.TheVariants as event
use Rattle.ph_items.specs.declared.items.Item.TheVariants as item
use Rattle.ph_rows.specs.Batches.{BatchState, with_row, with_announced}
use Rattle.ph_disputes.specs.Finding.{if_open, made_at}

-- the batch with a further version of the dispute in a row
abbrev pub with_version : Row → Dispute → BatchState → BatchState
with_version row dispute batch = with_row batch row.object row.account (item.Dispute dispute)

-- the batch with the news that the dispute in a row is closed
abbrev pub with_closed : Row → BatchState → BatchState
with_closed row batch = with_announced batch event.DisputeClosed row.object

-- a dispute that is lost: what was sent as evidence stays
abbrev pub lost_dispute : Dispute → Dispute
lost_dispute dispute = record dispute { status = status.Lost }

-- the close of the dispute in a row, where it isn't closed: it is lost
abbrev pub close_of : BatchState → Row → Dispute → Outcome
close_of batch row dispute =
    if_open dispute.status row.object (with_closed row (with_version row (lost_dispute dispute) batch))

-- the close of the dispute that the path names
abbrev pub close_outcome : List Row → ℕ → CloseDispute → BatchState → Outcome
close_outcome rows account call batch = made_at (close_of batch) rows account call.id
