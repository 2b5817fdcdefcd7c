-- What a capture adds beside the payment intent's own version.
use Rattle.std.specs.Prelude.{ℕ, List, Option, None, Some}
use Rattle.ph_rows.specs.declared.rows.Row.{Row}
use Rattle.ph_items.specs.declared.charges.Charge.{Charge}
use Rattle.ph_items.specs.declared.event_kinds.EventKind.TheVariants as event
use Rattle.ph_rows.specs.Batches.{BatchState, version_with, with_announced}
use Rattle.ph_items.specs.Items.{charge_in}
use Rattle.ph_charges.specs.Charges.{with_captured, with_fee}

-- the batch with the capture of an amount of the charge, where the item of a row is one: its version, with the fee that the
-- capture names, the split, its event
abbrev pub with_capture_of : ℕ → ℕ → ℕ → Option ℕ → BatchState → Option Charge → BatchState
with_capture_of account object amount fee batch None = batch
with_capture_of account object amount fee batch (Some charge) =
    with_announced (with_captured account object (with_fee fee charge) amount batch) event.ChargeCaptured object

-- the same for the version of the charge in a row, where there is one
abbrev pub with_capture_in : ℕ → ℕ → Option ℕ → BatchState → Option Row → BatchState
with_capture_in object amount fee batch None = batch
with_capture_in object amount fee batch (Some row) =
    with_capture_of row.account object amount fee batch (charge_in row.item)

-- the capture of an amount, with a fee or none named, of the charge of a number, whose last version is in the batch or in
-- the rows before it
abbrev pub capture_of : List Row → ℕ → ℕ → Option ℕ → BatchState → BatchState
capture_of rows object amount fee batch = with_capture_in object amount fee batch (version_with rows batch object)
