-- A link in memory, which follows a script.
use Rattle.std.specs.Prelude.{ℕ, ◌==◌, ◌++◌, ◌≤◌, List, [], ◌∷◌, length, slice_get, unwrap_or, if◌then◌else◌, Option, Some, None, Result, Ok, Err}
use Rattle.ph_base.specs.declared.acquirer.Ruling.{Ruling}
use Rattle.ph_items.specs.declared.orders.Order.{Order}
use Rattle.ph_bank.specs.declared.asking.Ask.{Ask}
use Rattle.ph_bank.specs.declared.asking.Asked.{Asked}
use Rattle.ph_bank.specs.declared.asking.Asked.TheVariants.{Pending, Ruled}
use Rattle.ph_bank.specs.declared.asking.AskFailed.{AskFailed}
use Rattle.ph_bank.specs.declared.memory.Cue.{Cue}
use Rattle.ph_bank.specs.declared.memory.Cue.TheVariants as cue
use Rattle.ph_bank.specs.declared.memory.Decision.{Decision}
use Rattle.ph_bank.specs.Patiences.{next_count}
use Rattle.ph_bank.specs.Links.{Link, failed}

-- its script, the most asks that it has room for, what it was asked, what is decided, and its faults
pub record Script : Type 0 where
  pub cues : List Cue
  pub room : ℕ
  pub asked : List Ask
  pub decisions : List Decision
  pub faults : ℕ

-- the decision on a reference
abbrev pub ruling_of : List Decision → ℕ → Option Ruling
ruling_of [] reference = None
ruling_of (decision ∷ decisions) reference =
    if decision.reference == reference then Some decision.ruling else ruling_of decisions reference

-- what it tells
abbrev pub link_of : Script → Link
link_of script = record { asked = Some script.asked; decisions = Some (ruling_of script.decisions); faults = script.faults }

-- the cue of the next ask: past the script's end it waits
abbrev pub next_cue : Script → Cue
next_cue script = unwrap_or (slice_get script.cues (length script.asked)) cue.Wait

-- a decision stays: only an undecided reference is decided
abbrev pub and_decision : Option Ruling → ℕ → Ruling → List Decision → List Decision
and_decision (Some old) reference ruling decisions = decisions
and_decision None reference ruling decisions = decisions ++ record { reference = reference; ruling = ruling } ∷ []

abbrev pub decided_by : Cue → ℕ → List Decision → List Decision
decided_by cue.Wait reference decisions = decisions
decided_by cue.Fail reference decisions = decisions
decided_by (cue.Decide ruling) reference decisions = and_decision (ruling_of decisions reference) reference ruling decisions

-- the answer by a decision
abbrev pub answer_by : Option Ruling → Asked
answer_by None = Pending
answer_by (Some ruling) = Ruled ruling

-- the answer to an ask by its cue
abbrev pub answer_on : Cue → ℕ → List Decision → Result Asked AskFailed
answer_on cue.Fail reference decisions = Err failed
answer_on cue.Wait reference decisions = Ok (answer_by (ruling_of decisions reference))
answer_on (cue.Decide ruling) reference decisions = Ok (answer_by (ruling_of (decided_by (cue.Decide ruling) reference decisions) reference))

abbrev pub faults_by : Cue → ℕ → ℕ
faults_by cue.Fail faults = next_count faults
faults_by cue.Wait faults = faults
faults_by (cue.Decide ruling) faults = faults

-- an ask that it has room for
abbrev pub asked_on : Cue → Script → Order → Script
asked_on cue script order = record script {
  asked = script.asked ++ record { order = order; answer = answer_on cue order.reference script.decisions } ∷ [];
  decisions = decided_by cue order.reference script.decisions;
  faults = faults_by cue script.faults;
}

-- one that it has no room for fails, and isn't told
abbrev pub after_ask : Script → Order → Script
after_ask script order =
    if length script.asked == script.room then record script { faults = next_count script.faults }
    else asked_on (next_cue script) script order

abbrev pub answer_to : Script → Order → Result Asked AskFailed
answer_to script order =
    if length script.asked == script.room then Err failed
    else answer_on (next_cue script) order.reference script.decisions

-- the room that is kept for the asks and decisions to come
pub record HasRoom (room asks asks_room decided decided_room : ℕ) : Type 0 where
  pub asked : asks ≤ room
  pub asks_fit : room ≤ asks_room
  pub decisions : decided ≤ asks
  pub decisions_fit : room ≤ decided_room
