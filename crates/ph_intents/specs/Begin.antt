-- The calls that begin an attempt: a confirm, a create that is confirmed at once, an authentication that succeeded.
use Rattle.std.specs.Prelude.{ℕ, List}
use Rattle.ph_facts.specs.Outcomes.{Outcome}
use Rattle.ph_rows.specs.declared.rows.Row.{Row}
use Rattle.ph_rows.specs.Batches.{BatchState}
use Rattle.ph_intents.specs.declared.begins.Begin.{Begin}
use Rattle.ph_intents.specs.declared.begins.Begin.TheVariants as begin
use Rattle.ph_intents.specs.Authenticate.{authenticate_outcome}
use Rattle.ph_intents.specs.Confirm.{confirm_outcome}
use Rattle.ph_intents.specs.Create.{create_confirmed_outcome}

-- what a call that begins an attempt comes to
abbrev pub begin_outcome : List Row → ℕ → Begin → BatchState → Outcome
begin_outcome rows account (begin.Confirm call) batch = confirm_outcome rows account call.now batch
begin_outcome rows account (begin.Create call) batch = create_confirmed_outcome rows account call.now batch
begin_outcome rows account (begin.Authenticate call) batch = authenticate_outcome rows account call.now batch
