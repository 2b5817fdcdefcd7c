-- The payment that a transfer gives to the account that it goes to.
use Rattle.std.specs.Prelude.{ℕ, [], None, Some}
use Rattle.ph_money.specs.declared.currencies.Currency.{Currency}
use Rattle.ph_items.specs.declared.charges.Charge.{Charge}
use Rattle.ph_items.specs.declared.charges.ChargeSort.TheVariants as charge_sort
use Rattle.ph_items.specs.declared.charges.ChargeStatus.TheVariants as status

-- the payment that a transfer of an amount gives: all of it is captured, by a transaction that is available from a moment
abbrev pub payment_given : ℕ → ℕ → Currency → ℕ → ℕ → Charge
payment_given transfer amount currency transaction available_on = record {
  sort = charge_sort.Payment transfer;
  amount = amount;
  amount_captured = amount;
  amount_refunded = 0;
  amount_transferred = 0;
  currency = currency;
  status = status.Succeeded;
  payment_method = None;
  application_fee_amount = None;
  destination = None;
  capture = Some (record {
    transaction = transaction;
    available_on = available_on;
    transfer = None;
    fee = None;
  });
  dispute = None;
  description = None;
  metadata = [];
  transfer_group = None;
}
