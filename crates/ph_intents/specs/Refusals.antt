-- The steps that the operations share, each with its refusal.
use Rattle.std.specs.Prelude.{◌≡◌, ℕ, List, Option, None, Some, codes}
use Rattle.ph_base.specs.declared.ids.Kind.TheVariants as kind
use Rattle.ph_facts.specs.Outcomes.{Outcome, Refuses}
use Rattle.ph_errors.specs.Table.{Problem, error_of, NoSuchObject, UnexpectedState, InvalidValue}
use Rattle.ph_errors.specs.declared.refusal.Refusal.{Refusal}
use Rattle.ph_errors.specs.declared.refusal.Refusal.TheVariants as refusal
use Rattle.ph_rows.specs.declared.rows.Row.{Row}
use Rattle.ph_items.specs.declared.intents.Intent.{Intent}
use Rattle.ph_items.specs.declared.intents.IntentStatus.{IntentStatus}
use Rattle.ph_items.specs.Items.{intent_in}
use Rattle.ph_rows.specs.Names.{owned_named}

-- the path names no payment intent of the account
abbrev pub no_such_intent : Outcome
no_such_intent = Refuses (error_of (NoSuchObject (codes "id")))

-- the status doesn't allow it
abbrev pub unexpected_state : Outcome
unexpected_state = Refuses (error_of UnexpectedState)

-- the value of a parameter isn't possible
abbrev pub invalid_value : List ℕ → Outcome
invalid_value param = Refuses (error_of (InvalidValue param))

-- what an operation makes of a version of a payment intent, where there is one
abbrev pub made_of : (Intent → Outcome) → Option Intent → Outcome
made_of operation None = no_such_intent
made_of operation (Some intent) = operation intent

-- what an operation makes of the number and the version in a row, where there is one
abbrev pub made_of_row : (ℕ → Intent → Outcome) → Option Row → Outcome
made_of_row operation None = no_such_intent
made_of_row operation (Some row) = made_of (operation row.object) (intent_in row.item)

-- what an operation makes of the payment intent of the account that a path names
abbrev pub made_at : (ℕ → Intent → Outcome) → List Row → ℕ → List ℕ → Outcome
made_at operation rows account text = made_of_row operation (owned_named rows account kind.Intent text)

-- what is done with the status to which a step leads, where it is allowed
abbrev pub if_allowed : (IntentStatus → Outcome) → Option IntentStatus → Outcome
if_allowed further None = unexpected_state
if_allowed further (Some status) = further status

-- the refusal is that of a problem, or want of memory
abbrev pub IsRefusal : Problem → Refusal → Type 0
IsRefusal problem refusal.NoMemory = Unit {0}
IsRefusal problem (refusal.Api error) = error ≡ error_of problem
