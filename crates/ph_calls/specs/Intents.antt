-- The calls on payment intents.
use Rattle.std.specs.Prelude.{ℕ, nat_lt, ◌==◌, ◌&&◌, not, Bool, false, is_none, List, [], ◌∷◌, Option, unwrap_or, codes}
use Rattle.std.specs.Option.{is_some}
use Rattle.ph_errors.specs.declared.api_error.ApiError.{ApiError}
use Rattle.ph_errors.specs.Table.{AmountTooSmall, InvalidValue, ParameterMissing, error_of}
use Rattle.ph_money.specs.declared.currencies.Currency.{Currency}
use Rattle.ph_money.specs.Currencies.{terms_of}
use Rattle.ph_items.specs.Accounts.{platform}
use Rattle.ph_items.specs.declared.intents.CancellationReason.{CancellationReason}
use Rattle.ph_items.specs.declared.intents.CaptureMethod.{CaptureMethod}
use Rattle.ph_items.specs.declared.payment_methods.PaymentMethod.{PaymentMethod}
use Rattle.ph_kinds.specs.declared.authentication.Authentication.{Authentication}
use Rattle.ph_kinds.specs.declared.metadata.Meta.{Meta}
use Rattle.ph_calls.specs.Check.{first_that_holds}
use Rattle.ph_calls.specs.declared.call.Authenticate.{Authenticate}
use Rattle.ph_calls.specs.declared.call.CancelIntent.{CancelIntent}
use Rattle.ph_calls.specs.declared.call.CaptureIntent.{CaptureIntent}
use Rattle.ph_calls.specs.declared.call.ConfirmIntent.{ConfirmIntent}
use Rattle.ph_calls.specs.declared.call.CreateIntent.{CreateIntent}
use Rattle.ph_calls.specs.declared.call.UpdateIntent.{UpdateIntent}

-- the create; it isn't confirmed where nothing is said of that
abbrev pub create_intent :
    ℕ → Currency → Option PaymentMethod → Option Bool → Option CaptureMethod → Option (List ℕ) → Option Meta → Option ℕ
    → Option (List ℕ) → Option (List ℕ) → CreateIntent
create_intent amount currency payment_method confirm capture_method description metadata fee destination transfer_group = record {
  amount = amount;
  currency = currency;
  payment_method = payment_method;
  confirm = unwrap_or confirm false;
  capture_method = capture_method;
  description = description;
  metadata = metadata;
  application_fee_amount = fee;
  destination = destination;
  transfer_group = transfer_group;
}

-- an application fee that is named is above an amount
abbrev pub is_fee_above : Option ℕ → ℕ → Bool
is_fee_above fee amount = nat_lt amount (unwrap_or fee 0)

-- the platform names an application fee without a destination
abbrev pub is_fee_of_nobody : ℕ → CreateIntent → Bool
is_fee_of_nobody account c = is_some c.application_fee_amount && account == platform && is_none c.destination

-- a connected account names a destination
abbrev pub is_passed_on : ℕ → CreateIntent → Bool
is_passed_on account c = is_some c.destination && not (account == platform)

-- the further checks of a create by an account that speak of an application fee and a destination: a fee above the amount;
-- one of the platform without a destination; a destination of a connected account
abbrev pub connect_checks : ℕ → CreateIntent → List (Bool × ApiError)
connect_checks account c =
    (is_fee_above c.application_fee_amount c.amount, error_of (InvalidValue (codes "application_fee_amount"))) ∷
    (is_fee_of_nobody account c, error_of (InvalidValue (codes "application_fee_amount"))) ∷
    (is_passed_on account c, error_of (InvalidValue (codes "transfer_data[destination]"))) ∷ []

abbrev pub connect_error : ℕ → CreateIntent → Option ApiError
connect_error account c = first_that_holds (connect_checks account c)

-- all its further checks, in their order: an amount below the currency's minimum; a confirm without a payment method; and
-- these
abbrev pub create_intent_error : ℕ → CreateIntent → Option ApiError
create_intent_error account c = first_that_holds (
    (nat_lt c.amount (terms_of c.currency).minimum, error_of AmountTooSmall) ∷
    (c.confirm && is_none c.payment_method, error_of (ParameterMissing (codes "payment_method"))) ∷
    connect_checks account c)

-- the update of the payment intent with this id
abbrev pub update_intent :
    List ℕ → Option ℕ → Option Currency → Option PaymentMethod → Option (List ℕ) → Option Meta → Option ℕ → Option (List ℕ)
    → UpdateIntent
update_intent id amount currency payment_method description metadata fee transfer_group = record {
  id = id;
  amount = amount;
  currency = currency;
  payment_method = payment_method;
  description = description;
  metadata = metadata;
  application_fee_amount = fee;
  transfer_group = transfer_group;
}

-- the confirm of the payment intent with this id
abbrev pub confirm_intent : List ℕ → Option PaymentMethod → ConfirmIntent
confirm_intent id payment_method = record { id = id; payment_method = payment_method }

-- the capture of the payment intent with this id
abbrev pub capture_intent : List ℕ → Option ℕ → Option ℕ → CaptureIntent
capture_intent id amount_to_capture fee = record { id = id; amount_to_capture = amount_to_capture; application_fee_amount = fee }

-- the cancel of the payment intent with this id
abbrev pub cancel_intent : List ℕ → Option CancellationReason → CancelIntent
cancel_intent id cancellation_reason = record { id = id; cancellation_reason = cancellation_reason }

-- the authentication for the payment intent with this id
abbrev pub authenticate_intent : List ℕ → Authentication → Authenticate
authenticate_intent id outcome = record { id = id; outcome = outcome }
