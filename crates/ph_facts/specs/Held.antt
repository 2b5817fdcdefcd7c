-- What a payment intent that waits for its capture may capture is held by its charge.
use Rattle.std.specs.Prelude.{◌≡◌, ℕ, ◌+◌, List, Option, None, Some, option_and_then}
use Rattle.ph_items.specs.declared.charges.Charge.{Charge}
use Rattle.ph_items.specs.declared.charges.ChargeSort.TheVariants as charge_sort
use Rattle.ph_items.specs.declared.intents.Intent.{Intent}
use Rattle.ph_items.specs.declared.intents.IntentStatus.TheVariants as status
use Rattle.ph_items.specs.declared.items.Item.TheVariants as item
use Rattle.ph_items.specs.Items.{charge_in}
use Rattle.ph_rows.specs.declared.rows.Row.{Row}
use Rattle.ph_rows.specs.Rows.{latest_of}

-- a version of a charge holds what can be captured of a payment intent: it is its card charge, what can be captured is what
-- is left of what was authorised, and nothing was captured yet
pub record Holds (object : ℕ) (waiting : Intent) (charge : Charge) : Type 0 where
  pub sort : charge.sort ≡ charge_sort.Card object
  pub amount : waiting.amount_capturable + charge.amount_captured ≡ charge.amount
  pub nothing : charge.amount_captured ≡ 0

-- the charge that was found holds it, and one was found
abbrev pub IsHeldBy : ℕ → Intent → Option Charge → Type 0
IsHeldBy object intent None = ⊥
IsHeldBy object intent (Some charge) = Holds object intent charge

-- the present version of the charge of a number
abbrev pub charge_of : List Row → ℕ → Option Charge
charge_of rows number = option_and_then (λ row. charge_in row.item) (latest_of number rows)

-- a payment intent is held by its latest charge, where its present version waits for its capture
abbrev pub IsHeldAt : ℕ → List Row → Type 0
IsHeldAt object rows = (row : Row) (intent : Intent) → latest_of object rows ≡ Some row → row.item ≡ item.Intent intent
    → intent.status ≡ status.RequiresCapture → IsHeldBy object intent (option_and_then (charge_of rows) intent.latest_charge)

-- every payment intent is, that waits for its capture
abbrev pub AreHeld : List Row → Type 0
AreHeld rows = (object : ℕ) → IsHeldAt object rows
