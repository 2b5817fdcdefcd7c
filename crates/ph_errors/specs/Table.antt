-- The table of errors: each with what it speaks of, and what the API answers.
use Rattle.std.specs.Prelude.{ℕ, List, ◌++◌, true, false, Option, Some, None, codes, decimal}
use Rattle.ph_base.specs.declared.acquirer.Decline.{Decline}
use Rattle.ph_base.specs.declared.acquirer.Decline.TheVariants.{Generic, NoFunds}
use Rattle.ph_errors.specs.declared.api_error.ApiError.{ApiError}
use Rattle.ph_errors.specs.declared.kinds.ErrorKind.{ErrorKind}
use Rattle.ph_errors.specs.declared.kinds.ErrorKind.TheVariants as kind
use Rattle.ph_errors.specs.declared.kinds.Code.{Code}
use Rattle.ph_errors.specs.declared.kinds.Code.TheVariants as code

-- every error that the API answers; a number is the place of a pair in a form, a list the name of a parameter
pub data Problem : Type 0 where
  InvalidApiKey NoSuchAccount UnrecognizedUrl : Problem
  BadName Clash TooDeep : ℕ → Problem
  ParameterUnknown ParameterMissing ParameterInvalidInteger : List ℕ → Problem
  AmountTooSmall : Problem
  AmountTooLarge InvalidValue NoSuchPaymentMethod : List ℕ → Problem
  KeyTooLong KeyNotText KeyDiffers KeyInUse : Problem
  NoSuchObject : List ℕ → Problem
  UnexpectedState ChargeNotCaptured DisputeClosed ChargeAlreadyRefunded ChargeDisputed : Problem
  PlatformOnly BalanceInsufficient ClockBackwards : Problem
  CardDeclined : Decline → Problem
  NotAuthenticated : Problem
  AcquirerPending AcquirerFailed NoMemory HistoryFull : Problem
  Malformed BodyTooLarge HeadTooLarge NotImplemented VersionNotSupported : Problem

-- an error with a type, a code and a message alone
abbrev pub bare : ℕ → ErrorKind → Option Code → List ℕ → ApiError
bare status kind code message =
    record { status = status; kind = kind; code = code; param = None; decline = None; message = message; retry = false }

-- an error in a request, with a code or none, and the parameter that it speaks of or none
abbrev pub request : ℕ → Option Code → Option (List ℕ) → List ℕ → ApiError
request status code param message = record (bare status kind.InvalidRequestError code message) { param = param }

-- an error after which the same request may be sent again
abbrev pub retried : ApiError → ApiError
retried error = record error { retry = true }

-- what is said of a declined card
abbrev pub decline_message : Decline → List ℕ
decline_message Generic = codes "Your card was declined."
decline_message NoFunds = codes "Your card has insufficient funds."

-- the sentence with the place of a pair
abbrev pub at_place : List ℕ → ℕ → List ℕ
at_place words place = words ++ codes " at place " ++ decimal place ++ codes "."

-- what the API answers to each
unfoldable pub error_of : Problem → ApiError
error_of InvalidApiKey = request 401 None None (codes "Invalid API Key provided.")
error_of NoSuchAccount = request 404 (Some code.ResourceMissing) (Some (codes "Stripe-Account")) (codes "No such account.")
error_of UnrecognizedUrl = request 404 None None (codes "Unrecognized request URL.")
error_of (BadName place) = request 400 None None (at_place (codes "Invalid parameter name") place)
error_of (Clash place) = request 400 None None (at_place (codes "Repeated parameter") place)
error_of (TooDeep place) = request 400 None None (at_place (codes "Parameter nested too deeply") place)
error_of (ParameterUnknown path) = request 400 (Some code.ParameterUnknown) (Some path) (codes "Received unknown parameter.")
error_of (ParameterMissing param) = request 400 (Some code.ParameterMissing) (Some param) (codes "Missing required parameter.")
error_of (ParameterInvalidInteger param) = request 400 (Some code.ParameterInvalidInteger) (Some param) (codes "Invalid integer.")
error_of AmountTooSmall = request 400 (Some code.AmountTooSmall) (Some (codes "amount")) (codes "Amount is below the minimum.")
error_of (AmountTooLarge param) = request 400 (Some code.AmountTooLarge) (Some param) (codes "Amount is above the maximum.")
error_of (InvalidValue param) = request 400 None (Some param) (codes "Invalid value.")
error_of (NoSuchPaymentMethod param) = request 400 (Some code.ResourceMissing) (Some param) (codes "No such payment method.")
error_of KeyTooLong = bare 400 kind.IdempotencyError None (codes "Idempotency key is too long.")
error_of KeyNotText = bare 400 kind.IdempotencyError None (codes "Idempotency key is not text.")
error_of KeyDiffers = bare 400 kind.IdempotencyError None (codes "Idempotency key was used with other parameters.")
error_of KeyInUse = retried (bare 409 kind.IdempotencyError (Some code.IdempotencyKeyInUse) (codes "A request with this idempotency key is running."))
error_of (NoSuchObject param) = request 404 (Some code.ResourceMissing) (Some param) (codes "No such object.")
error_of UnexpectedState = request 400 (Some code.PaymentIntentUnexpectedState) None (codes "The status of this PaymentIntent does not allow this.")
error_of ChargeNotCaptured = request 400 None (Some (codes "charge")) (codes "The charge has not been captured.")
error_of DisputeClosed = request 400 None (Some (codes "id")) (codes "The dispute is closed.")
error_of ChargeAlreadyRefunded = request 400 (Some code.ChargeAlreadyRefunded) None (codes "The charge has been refunded.")
error_of ChargeDisputed = request 400 (Some code.ChargeDisputed) None (codes "The charge is disputed.")
error_of PlatformOnly = request 400 None (Some (codes "Stripe-Account")) (codes "Not possible on a connected account.")
error_of BalanceInsufficient = request 400 (Some code.BalanceInsufficient) None (codes "Insufficient available funds.")
error_of ClockBackwards = request 400 (Some code.ClockBackwards) (Some (codes "now")) (codes "The clock does not go back.")
error_of (CardDeclined decline) = record (bare 402 kind.CardError (Some code.CardDeclined) (decline_message decline)) { decline = Some decline }
error_of NotAuthenticated = bare 402 kind.CardError (Some code.PaymentIntentAuthenticationFailure) (codes "The payment was not authenticated.")
error_of AcquirerPending = retried (bare 500 kind.ApiError (Some code.AcquirerPending) (codes "The acquirer has not answered yet."))
error_of AcquirerFailed = retried (bare 500 kind.ApiError (Some code.AcquirerFailed) (codes "The acquirer could not be reached."))
error_of NoMemory = bare 503 kind.ApiError (Some code.NoMemory) (codes "Out of memory.")
error_of HistoryFull = bare 503 kind.ApiError (Some code.HistoryFull) (codes "The history is full.")
error_of Malformed = request 400 None None (codes "Malformed request.")
error_of BodyTooLarge = request 413 None None (codes "Body too large.")
error_of HeadTooLarge = request 431 None None (codes "Head too large.")
error_of NotImplemented = request 501 None None (codes "Not implemented.")
error_of VersionNotSupported = request 505 None None (codes "HTTP version not supported.")
