-- The versions of a charge.
use Rattle.std.specs.Prelude.{ℕ, ◌+◌, Option, None, Some}
use Rattle.std.specs.Option.{option_or}
use Rattle.ph_items.specs.declared.charges.Capture.{Capture}
use Rattle.ph_items.specs.declared.charges.Charge.{Charge}
use Rattle.ph_items.specs.declared.charges.ChargeSort.TheVariants as sort
use Rattle.ph_items.specs.declared.charges.ChargeStatus.{ChargeStatus}
use Rattle.ph_items.specs.declared.intents.Intent.{Intent}
use Rattle.ph_items.specs.declared.items.Item.TheVariants as item
use Rattle.ph_rows.specs.Batches.{BatchState, last_place, with_row}
use Rattle.ph_charges.specs.NewRows.{with_new_rows}
use Rattle.ph_charges.specs.Splits.{split_capture, split_rows}

-- the charge of a payment intent on which the acquirer ruled: the whole amount, of which nothing is captured yet; what the
-- payment intent says of itself it keeps
abbrev pub new_charge : ℕ → Intent → ChargeStatus → Charge
new_charge object intent status = record {
  sort = sort.Card object;
  amount = intent.amount;
  amount_captured = 0;
  amount_refunded = 0;
  amount_transferred = 0;
  currency = intent.currency;
  status = status;
  payment_method = intent.payment_method;
  application_fee_amount = intent.application_fee_amount;
  destination = intent.destination;
  capture = None;
  dispute = None;
  description = intent.description;
  metadata = intent.metadata;
  transfer_group = intent.transfer_group;
}

-- a charge of which the platform takes what a capture names, or else what it takes as it is
abbrev pub with_fee : Option ℕ → Charge → Charge
with_fee fee charge = record charge { application_fee_amount = option_or fee charge.application_fee_amount }

-- what is drawn on a charge by the capture of an amount: all of it, where the charge has a destination
abbrev pub drawn_by_capture : Option ℕ → ℕ → ℕ
drawn_by_capture None amount = 0
drawn_by_capture (Some destination) amount = amount

-- a charge of which an amount is captured
abbrev pub captured_charge : ℕ → Capture → Charge → Charge
captured_charge amount capture charge = record charge {
  amount_captured = amount;
  amount_transferred = drawn_by_capture charge.destination amount;
  capture = Some capture;
}

-- what a charge keeps of a capture whose row is the next one: the first row of its split stands behind it
abbrev pub next_capture : ℕ → Charge → ℕ → BatchState → Capture
next_capture account charge amount batch = split_capture (last_place batch + 2) account charge amount batch.at

-- the batch with a version of a charge of which an amount is captured, and the split of it
abbrev pub with_captured : ℕ → ℕ → Charge → ℕ → BatchState → BatchState
with_captured account object charge amount batch =
    with_new_rows (split_rows (last_place batch + 2) account object charge amount batch.at)
    (with_row batch object account (item.Charge (captured_charge amount (next_capture account charge amount batch) charge)))
