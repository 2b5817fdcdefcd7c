-- Words that parameters take.
use Rattle.std.specs.Prelude.{ℕ, Bool, true, false, if◌then◌else◌, List, [], ◌∷◌, Result, Ok, Err, ok_or, find, codes, bytes_eq}
use Rattle.std.specs.Str.{str_eq_ignore_ascii_case}
use Rattle.ph_money.specs.declared.currencies.Currency.{Currency}
use Rattle.ph_money.specs.Currencies.{currency_of}
use Rattle.ph_items.specs.Words.{account_type_text, cancellation_reason_text, capture_method_text, refund_reason_text}
use Rattle.ph_kinds.specs.declared.authentication.Authentication.{Authentication}
use Rattle.ph_kinds.specs.declared.authentication.Authentication.TheVariants.{Succeeded, Failed}
use Rattle.ph_kinds.specs.declared.flaw.Flaw.{Flaw}
use Rattle.ph_kinds.specs.declared.flaw.Flaw.TheVariants.{InvalidValue}
use Rattle.ph_items.specs.declared.accounts.AccountType.{AccountType}
use Rattle.ph_items.specs.declared.accounts.AccountType.TheVariants.{Standard, Express, Custom}
use Rattle.ph_items.specs.declared.intents.CancellationReason.{CancellationReason}
use Rattle.ph_items.specs.declared.intents.CancellationReason.TheVariants.{Duplicate, Fraudulent, RequestedByCustomer, Abandoned}
use Rattle.ph_items.specs.declared.intents.CaptureMethod.{CaptureMethod}
use Rattle.ph_items.specs.declared.intents.CaptureMethod.TheVariants.{Automatic, AutomaticAsync, Manual}
use Rattle.ph_items.specs.declared.refunds.RefundReason.{RefundReason}
use Rattle.ph_items.specs.declared.refunds.RefundReason.TheVariants as refund_reason

-- a currency: its code, ASCII case ignored
abbrev pub currency_in : List ℕ → Result Currency Flaw
currency_in text = ok_or (currency_of text) InvalidValue

-- a truth value: `true` or `false`, ASCII case ignored
abbrev pub truth_in : List ℕ → Result Bool Flaw
truth_in text =
    if str_eq_ignore_ascii_case text (codes "true") then Ok true
    else (if str_eq_ignore_ascii_case text (codes "false") then Ok false else Err InvalidValue)

-- every type of account
abbrev pub account_types : List AccountType
account_types = Standard ∷ Express ∷ Custom ∷ []

-- a type of account: its word
abbrev pub account_type_in : List ℕ → Result AccountType Flaw
account_type_in text = ok_or (find (λ type. bytes_eq text (account_type_text type)) account_types) InvalidValue

-- every capture method
abbrev pub capture_methods : List CaptureMethod
capture_methods = Automatic ∷ AutomaticAsync ∷ Manual ∷ []

-- a capture method: its word
abbrev pub capture_method_in : List ℕ → Result CaptureMethod Flaw
capture_method_in text = ok_or (find (λ method. bytes_eq text (capture_method_text method)) capture_methods) InvalidValue

-- every reason for a cancel
abbrev pub cancellation_reasons : List CancellationReason
cancellation_reasons = Duplicate ∷ Fraudulent ∷ RequestedByCustomer ∷ Abandoned ∷ []

-- a reason for a cancel: its word
abbrev pub cancellation_reason_in : List ℕ → Result CancellationReason Flaw
cancellation_reason_in text = ok_or (find (λ reason. bytes_eq text (cancellation_reason_text reason)) cancellation_reasons) InvalidValue

-- every reason for a refund
abbrev pub refund_reasons : List RefundReason
refund_reasons = refund_reason.Duplicate ∷ refund_reason.Fraudulent ∷ refund_reason.RequestedByCustomer ∷ []

-- a reason for a refund: its word
abbrev pub refund_reason_in : List ℕ → Result RefundReason Flaw
refund_reason_in text = ok_or (find (λ reason. bytes_eq text (refund_reason_text reason)) refund_reasons) InvalidValue

-- what an authentication comes to: `succeeded` or `failed`
unfoldable pub authentication_in : List ℕ → Result Authentication Flaw
authentication_in text =
    if bytes_eq text (codes "succeeded") then Ok Succeeded
    else (if bytes_eq text (codes "failed") then Ok Failed else Err InvalidValue)
