-- The rows of a transfer.
use Rattle.std.specs.Prelude.{ℕ, ◌+◌, ◌-◌, max, Option, None, Some, option_map}
use Rattle.ph_calls.specs.declared.call.CreateTransfer.{CreateTransfer}
use Rattle.ph_charges.specs.NewRows.{with_new_rows}
use Rattle.ph_charges.specs.Transfers.{transfer_rows}
use Rattle.ph_items.specs.declared.charges.Capture.{Capture}
use Rattle.ph_items.specs.declared.charges.Charge.{Charge}
use Rattle.ph_items.specs.declared.event_kinds.EventKind.TheVariants as event
use Rattle.ph_items.specs.declared.items.Item.TheVariants as item
use Rattle.ph_items.specs.declared.transfers.Transfer.{Transfer}
use Rattle.ph_kinds.specs.Kept.{first_metadata}
use Rattle.ph_rows.specs.declared.rows.Row.{Row}
use Rattle.ph_rows.specs.Batches.{BatchState, last_place, with_row, with_announced}

-- ---- what it is drawn on

-- a captured charge on which a transfer is drawn: its present version, in its row
pub record Drawn : Type 0 where
  pub row : Row
  pub charge : Charge
  pub capture : Capture

-- what can still be transferred of a charge: what was captured, less what transfers drew on it
abbrev pub left_to_transfer : Charge → ℕ
left_to_transfer charge = charge.amount_captured - charge.amount_transferred

-- the number of the charge, where a transfer is drawn on one
abbrev pub drawn_on : Option Drawn → Option ℕ
drawn_on drawn = option_map (λ (source : Drawn). source.row.object) drawn

-- the moment from which what is transferred now counts: at once, where it is drawn on no charge; else now, or when what was
-- captured of the charge does, the later
abbrev pub transferred_from : ℕ → Option Drawn → ℕ
transferred_from now None = now
transferred_from now (Some drawn) = max now drawn.capture.available_on

-- ---- the rows

-- the transfer of a number that a call makes to an account, drawn on the charge of a number or on none, that counts from a moment:
-- its transaction and its payment stand behind it
abbrev pub new_transfer : CreateTransfer → ℕ → Option ℕ → ℕ → ℕ → Transfer
new_transfer call destination source available_on number = record {
  amount = call.amount;
  amount_reversed = 0;
  currency = call.currency;
  destination = destination;
  payment = number + 2;
  source = source;
  transaction = number + 1;
  available_on = available_on;
  description = call.description;
  metadata = first_metadata call.metadata;
  transfer_group = call.transfer_group;
}

-- the batch with a transfer, what it takes from the platform, the payment that it gives, and that one's transaction
abbrev pub with_given : CreateTransfer → ℕ → Option ℕ → ℕ → BatchState → BatchState
with_given call destination source available_on batch =
    with_new_rows (transfer_rows (last_place batch + 1) (new_transfer call destination source available_on (last_place batch + 1)) 0) batch

-- a charge on which a transfer drew an amount more
abbrev pub drawn_charge : ℕ → Charge → Charge
drawn_charge amount charge = record charge { amount_transferred = charge.amount_transferred + amount }

-- the batch with the version of the charge on which a transfer drew an amount, where it did
abbrev pub with_drawn : ℕ → Option Drawn → BatchState → BatchState
with_drawn amount None batch = batch
with_drawn amount (Some drawn) batch =
    with_row batch drawn.row.object drawn.row.account (item.Charge (drawn_charge amount drawn.charge))

-- the batch with the rows that a transfer adds: its own, then the version of the charge on which it is drawn; and what is told of it
abbrev pub with_transfer : CreateTransfer → ℕ → Option Drawn → BatchState → BatchState
with_transfer call destination drawn batch =
    with_announced
    (with_drawn call.amount drawn (with_given call destination (drawn_on drawn) (transferred_from batch.at drawn) batch))
    event.TransferCreated (last_place batch + 1)
