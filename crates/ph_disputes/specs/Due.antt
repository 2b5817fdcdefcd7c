-- The charges that are disputed as soon as they are captured.
use Rattle.std.specs.Prelude.{ℕ, Bool, true, false, ◌&&◌, not, if◌then◌else◌, List, Option, None, Some, option_and_then}
use Rattle.std.specs.Option.{is_some}
use Rattle.ph_base.specs.declared.acquirer.Method.{Method}
use Rattle.ph_base.specs.declared.acquirer.Method.TheVariants as method
use Rattle.ph_rows.specs.declared.rows.Row.{Row}
use Rattle.ph_items.specs.declared.charges.Charge.{Charge}
use Rattle.ph_items.specs.declared.payment_methods.PaymentMethod.{PaymentMethod}
use Rattle.ph_rows.specs.Batches.{BatchState}
use Rattle.ph_items.specs.Items.{latest_charge_in}
use Rattle.ph_rows.specs.Rows.{latest_of}
use Rattle.ph_facts.specs.Held.{charge_of}
use Rattle.ph_disputes.specs.Opening.{open_of}

-- whether what a method pays is disputed
abbrev pub is_disputing : Method → Bool
is_disputing method.Visa = false
is_disputing method.Declined = false
is_disputing method.NoFunds = false
is_disputing method.Challenge = false
is_disputing method.Authenticated = false
is_disputing method.Dispute = true
is_disputing method.Bypass = false
is_disputing (method.Slow asks) = false
is_disputing method.Lost = false

-- whether what a payment method pays is disputed
abbrev pub is_disputed_by : Option PaymentMethod → Bool
is_disputed_by None = false
is_disputed_by (Some method) = is_disputing method.method

-- a dispute of a charge is due: it is captured, paid by such a method, and has no dispute yet
abbrev pub is_due : Charge → Bool
is_due charge = is_some charge.capture && is_disputed_by charge.payment_method && not (is_some charge.dispute)

-- a dispute of a charge is due, and there is one
abbrev pub is_due_of : Option Charge → Bool
is_due_of None = false
is_due_of (Some charge) = is_due charge

-- the number of a charge, where a dispute of its last version among rows is due
abbrev pub if_due : List Row → ℕ → Option ℕ
if_due rows number = if is_due_of (charge_of rows number) then Some number else None

-- the latest charge of a payment intent whose last version is among rows
abbrev pub latest_charge_among : List Row → ℕ → Option ℕ
latest_charge_among rows intent = option_and_then (λ row. latest_charge_in row.item) (latest_of intent rows)

-- the same, where a dispute of it is due by its last version among the rows
abbrev pub due_charge : List Row → ℕ → Option ℕ
due_charge rows intent = option_and_then (if_due rows) (latest_charge_among rows intent)

-- the batch with the opening of a dispute of the charge that is due, where one is
abbrev pub opening_due : List Row → BatchState → Option ℕ → BatchState
opening_due rows batch None = batch
opening_due rows batch (Some charge) = open_of rows charge batch

-- the opening of a dispute of the latest charge of a payment intent, where the batch has versions of both, and the
-- dispute is due
abbrev pub open_due_of : List Row → ℕ → BatchState → BatchState
open_due_of rows intent batch = opening_due rows batch (due_charge batch.rows intent)
