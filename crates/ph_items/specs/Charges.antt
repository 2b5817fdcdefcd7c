-- What a charge is made for: a card charge pays a payment intent, a payment is what a transfer gave.
use Rattle.std.specs.Prelude.{ℕ, Option, None, Some}
use Rattle.ph_base.specs.declared.ids.Kind.{Kind}
use Rattle.ph_base.specs.declared.ids.Kind.TheVariants as kind
use Rattle.ph_items.specs.declared.charges.ChargeSort.{ChargeSort}
use Rattle.ph_items.specs.declared.charges.ChargeSort.TheVariants as sort

-- the kind of the object
abbrev pub charge_kind : ChargeSort → Kind
charge_kind (sort.Card intent) = kind.Charge
charge_kind (sort.Payment transfer) = kind.Payment

-- the payment intent that it pays: that of a card charge
abbrev pub paid_intent : ChargeSort → Option ℕ
paid_intent (sort.Card intent) = Some intent
paid_intent (sort.Payment transfer) = None

-- the transfer that it comes from: that of a payment
abbrev pub source_transfer : ChargeSort → Option ℕ
source_transfer (sort.Card intent) = None
source_transfer (sort.Payment transfer) = Some transfer
