-- The names that an error is told by.
use Rattle.std.specs.Prelude.{ℕ, List, codes}
use Rattle.ph_base.specs.declared.acquirer.Decline.{Decline}
use Rattle.ph_base.specs.declared.acquirer.Decline.TheVariants.{Generic, NoFunds}
use Rattle.ph_errors.specs.declared.kinds.ErrorKind.{ErrorKind}
use Rattle.ph_errors.specs.declared.kinds.ErrorKind.TheVariants.{ApiError, CardError, IdempotencyError, InvalidRequestError}
use Rattle.ph_errors.specs.declared.kinds.Code.{Code}
use Rattle.ph_errors.specs.declared.kinds.Code.TheVariants.{AcquirerFailed, AcquirerPending, AmountTooLarge, AmountTooSmall, BalanceInsufficient, CardDeclined, ChargeAlreadyRefunded, ChargeDisputed, ClockBackwards, HistoryFull, IdempotencyKeyInUse, NoMemory, ParameterInvalidInteger, ParameterMissing, ParameterUnknown, PaymentIntentAuthenticationFailure, PaymentIntentUnexpectedState, ResourceMissing}

-- what stands at the key `type`
abbrev pub kind_name : ErrorKind → List ℕ
kind_name ApiError = codes "api_error"
kind_name CardError = codes "card_error"
kind_name IdempotencyError = codes "idempotency_error"
kind_name InvalidRequestError = codes "invalid_request_error"

-- what stands at the key `code`
abbrev pub code_name : Code → List ℕ
code_name AcquirerFailed = codes "acquirer_failed"
code_name AcquirerPending = codes "acquirer_pending"
code_name AmountTooLarge = codes "amount_too_large"
code_name AmountTooSmall = codes "amount_too_small"
code_name BalanceInsufficient = codes "balance_insufficient"
code_name CardDeclined = codes "card_declined"
code_name ChargeAlreadyRefunded = codes "charge_already_refunded"
code_name ChargeDisputed = codes "charge_disputed"
code_name ClockBackwards = codes "clock_backwards"
code_name HistoryFull = codes "history_full"
code_name IdempotencyKeyInUse = codes "idempotency_key_in_use"
code_name NoMemory = codes "no_memory"
code_name ParameterInvalidInteger = codes "parameter_invalid_integer"
code_name ParameterMissing = codes "parameter_missing"
code_name ParameterUnknown = codes "parameter_unknown"
code_name PaymentIntentAuthenticationFailure = codes "payment_intent_authentication_failure"
code_name PaymentIntentUnexpectedState = codes "payment_intent_unexpected_state"
code_name ResourceMissing = codes "resource_missing"

-- what stands at the key `decline_code`
abbrev pub decline_name : Decline → List ℕ
decline_name Generic = codes "generic_decline"
decline_name NoFunds = codes "insufficient_funds"
