-- The create of a refund.
use Rattle.std.specs.Prelude.{ℕ, ◌&&◌, ◌||◌, not, Bool, false, is_none, is_some, List, [], ◌∷◌, Option, unwrap_or, codes}
use Rattle.ph_errors.specs.declared.api_error.ApiError.{ApiError}
use Rattle.ph_errors.specs.Table.{InvalidValue, ParameterMissing, error_of}
use Rattle.ph_items.specs.declared.refunds.RefundReason.{RefundReason}
use Rattle.ph_kinds.specs.declared.metadata.Meta.{Meta}
use Rattle.ph_calls.specs.Check.{first_that_holds, is_zero}
use Rattle.ph_calls.specs.declared.call.CreateRefund.{CreateRefund}

-- the refund; nothing of a transfer is taken back, and nothing of a fee given back, where nothing is said of that
abbrev pub create_refund :
    Option (List ℕ) → Option (List ℕ) → Option ℕ → Option RefundReason → Option Meta → Option Bool → Option Bool → CreateRefund
create_refund charge payment_intent amount reason metadata reverse_transfer refund_application_fee = record {
  charge = charge;
  payment_intent = payment_intent;
  amount = amount;
  reason = reason;
  metadata = metadata;
  reverse_transfer = unwrap_or reverse_transfer false;
  refund_application_fee = unwrap_or refund_application_fee false;
}

-- exactly one of a charge and a payment intent is named
abbrev pub names_one : CreateRefund → Bool
names_one c = (is_some c.charge && is_none c.payment_intent) || (is_none c.charge && is_some c.payment_intent)

-- the further checks of the refund, in their order: both or none of a charge and a payment intent, and an amount of 0
abbrev pub create_refund_error : CreateRefund → Option ApiError
create_refund_error c = first_that_holds (
    (not (names_one c), error_of (ParameterMissing (codes "charge"))) ∷
    (is_zero c.amount, error_of (InvalidValue (codes "amount"))) ∷ [])
