-- What a ruling of the acquirer adds beside the payment intent's own version: its charge.
use Rattle.std.specs.Prelude.{ℕ, ◌+◌}
use Rattle.ph_items.specs.declared.charges.Charge.{Charge}
use Rattle.ph_items.specs.declared.charges.ChargeStatus.TheVariants as status
use Rattle.ph_items.specs.declared.event_kinds.EventKind.TheVariants as event
use Rattle.ph_items.specs.declared.intents.CaptureMethod.{CaptureMethod}
use Rattle.ph_items.specs.declared.intents.CaptureMethod.TheVariants as capture_method
use Rattle.ph_items.specs.declared.intents.Intent.{Intent}
use Rattle.ph_items.specs.declared.items.Item.TheVariants as item
use Rattle.ph_rows.specs.Batches.{BatchState, last_place, with_row, with_announced}
use Rattle.ph_charges.specs.Charges.{new_charge, with_captured}

-- the number of a charge whose row is the next one
abbrev pub charge_number : BatchState → ℕ
charge_number batch = last_place batch + 1

-- the batch with an approved charge of a number, by when it is captured: all of it at once, or nothing yet
abbrev pub with_approved : CaptureMethod → ℕ → ℕ → Charge → BatchState → BatchState
with_approved capture_method.Automatic account number charge batch = with_captured account number charge charge.amount batch
with_approved capture_method.AutomaticAsync account number charge batch = with_captured account number charge charge.amount batch
with_approved capture_method.Manual account number charge batch = with_row batch number account (item.Charge charge)

-- the approval of a payment intent of an account: its charge, with the split where it is captured at once, and its event
abbrev pub approval_of : ℕ → ℕ → Intent → BatchState → BatchState
approval_of account object intent batch =
    with_announced
    (with_approved intent.capture_method account (charge_number batch) (new_charge object intent status.Succeeded) batch)
    event.ChargeSucceeded (charge_number batch)

-- the decline of a payment intent of an account: its failed charge, and its event
abbrev pub decline_of : ℕ → ℕ → Intent → BatchState → BatchState
decline_of account object intent batch =
    with_announced (with_row batch (charge_number batch) account (item.Charge (new_charge object intent status.Failed)))
    event.ChargeFailed (charge_number batch)
