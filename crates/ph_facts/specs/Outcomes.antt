-- What a call comes to when it is carried out.
use Rattle.std.specs.Prelude.{◌≡◌, ℕ, Option, None, Result, Ok, Err}
use Rattle.ph_errors.specs.declared.api_error.ApiError.{ApiError}
use Rattle.ph_errors.specs.declared.refusal.Refusal.{Refusal}
use Rattle.ph_errors.specs.declared.refusal.Refusal.TheVariants as refusal
use Rattle.ph_items.specs.declared.orders.Order.{Order}
use Rattle.ph_rows.specs.Batches.{BatchState}
use Rattle.ph_facts.specs.Touches.{Touch, order_asked}

-- an error, and nothing is added; or what is done to payment intents and attempts, the object that the reply shows, and what
-- the entry's batch becomes
pub data Outcome : Type 0 where
  Refuses : ApiError → Outcome
  Adds : Touch → (object : ℕ) → BatchState → Outcome

-- what the program sees of an outcome: of what is done, only the order for which the call waits
pub data Seen : Type 0 where
  Refused : ApiError → Seen
  Added : (object : ℕ) → Option Order → BatchState → Seen

abbrev pub seen : Outcome → Seen
seen (Refuses error) = Refused error
seen (Adds touch object batch) = Added object (order_asked touch) batch

-- an operation's refusal, and its batch, are the outcome: nothing is added to the batch before; want of memory is free
abbrev pub IsRefusedBy : Outcome → BatchState → Refusal → BatchState → Type 0
IsRefusedBy outcome old (refusal.Api error) new = (outcome ≡ Refuses error) × (new ≡ old)
IsRefusedBy outcome old refusal.NoMemory new = Unit {0}

-- what an operation answered that waits for no order, and its batch, are the outcome
abbrev pub Gives : Outcome → BatchState → Result ℕ Refusal → BatchState → Type 0
Gives outcome old (Ok object) new = seen outcome ≡ Added object None new
Gives outcome old (Err refused) new = IsRefusedBy outcome old refused new
