-- What an operation answers that begins an attempt.
use Rattle.std.specs.Prelude.{◌≡◌, Some, Result, Ok, Err}
use Rattle.ph_errors.specs.declared.refusal.Refusal.{Refusal}
use Rattle.ph_rows.specs.Batches.{BatchState}
use Rattle.ph_facts.specs.Outcomes.{Outcome, Added, IsRefusedBy, seen}
use Rattle.ph_intents.specs.declared.begins.Begun.{Begun}

-- it waits for an order, and its batch is that of the outcome
abbrev pub GivesBegun : Outcome → BatchState → Result Begun Refusal → BatchState → Type 0
GivesBegun outcome old (Ok begun) new = seen outcome ≡ Added begun.object (Some begun.order) new
GivesBegun outcome old (Err refused) new = IsRefusedBy outcome old refused new
