-- The dispute that a path names, and the steps that both calls share.
use Rattle.std.specs.Prelude.{ℕ, Bool, true, false, if◌then◌else◌, List, Option, None, Some, codes}
use Rattle.ph_base.specs.declared.ids.Kind.TheVariants as kind
use Rattle.ph_facts.specs.Outcomes.{Outcome, Refuses, Adds}
use Rattle.ph_facts.specs.Touches.{Untouched}
use Rattle.ph_errors.specs.Table.{error_of, NoSuchObject, DisputeClosed}
use Rattle.ph_rows.specs.declared.rows.Row.{Row}
use Rattle.ph_items.specs.declared.disputes.Dispute.{Dispute}
use Rattle.ph_items.specs.declared.disputes.DisputeStatus.{DisputeStatus}
use Rattle.ph_items.specs.declared.disputes.DisputeStatus.TheVariants as status
use Rattle.ph_rows.specs.Batches.{BatchState}
use Rattle.ph_items.specs.Items.{dispute_in}
use Rattle.ph_rows.specs.Names.{owned_named}

-- the path names no dispute of the account
abbrev pub no_such_dispute : Outcome
no_such_dispute = Refuses (error_of (NoSuchObject (codes "id")))

-- what is made of a version of a dispute, where there is one
abbrev pub made_of : (Row → Dispute → Outcome) → Row → Option Dispute → Outcome
made_of operation row None = no_such_dispute
made_of operation row (Some dispute) = operation row dispute

-- what is made of a row and its version of a dispute, where there is one
abbrev pub made_of_row : (Row → Dispute → Outcome) → Option Row → Outcome
made_of_row operation None = no_such_dispute
made_of_row operation (Some row) = made_of operation row (dispute_in row.item)

-- what is made of the dispute of the account that a path names
abbrev pub made_at : (Row → Dispute → Outcome) → List Row → ℕ → List ℕ → Outcome
made_at operation rows account text = made_of_row operation (owned_named rows account kind.Dispute text)

-- a dispute is closed when it is won or lost
abbrev pub is_closed : DisputeStatus → Bool
is_closed status.NeedsResponse = false
is_closed status.UnderReview = false
is_closed status.Won = true
is_closed status.Lost = true

-- what a batch becomes, where a dispute isn't closed; the answer is the dispute
abbrev pub if_open : DisputeStatus → ℕ → BatchState → Outcome
if_open status object batch = if is_closed status then Refuses (error_of DisputeClosed) else Adds Untouched object batch
