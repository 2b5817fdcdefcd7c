-- The laws of the operations.
use Rattle.std.specs.Prelude.{◌≡◌, ℕ, List, Option, None, Some}
use Rattle.ph_facts.specs.Outcomes.{Outcome, Refuses, Adds}
use Rattle.ph_rows.specs.declared.rows.Row.{Row}
use Rattle.ph_items.specs.declared.orders.Order.{Order}
use Rattle.ph_rows.specs.Batches.{BatchState, last_place}
use Rattle.ph_facts.specs.Touches.{order_asked}

-- an order is there, and its reference is a number
abbrev pub IsUnder : ℕ → Option Order → Type 0
IsUnder number None = ⊥
IsUnder number (Some order) = order.reference ≡ number

-- what is added waits for an order, which is to be asked under the place of the last row
abbrev pub AddsAsked : Outcome → Type 0
AddsAsked (Refuses error) = Unit {0}
AddsAsked (Adds touch object batch) = IsUnder (last_place batch) (order_asked touch)

-- whatever stands, each call that is accepted adds an attempt to be asked
abbrev pub BegunIsAsked : {C : Type 0} → (List Row → ℕ → C → BatchState → Outcome) → Type 0
BegunIsAsked {C} outcome =
    (rows : List Row) (account : ℕ) (call : C) (batch : BatchState) → AddsAsked (outcome rows account call batch)
