-- The kinds of parameters: what a value of each is, and how one is read from a text or a map.
use Rattle.std.specs.Prelude.{ℕ, nat_le, Bool, if◌then◌else◌, List, length, Option, Result, Ok, Err, ok_or}
use Rattle.std.specs.Str.{chars}
use Rattle.ph_money.specs.declared.currencies.Currency.{Currency}
use Rattle.ph_items.specs.declared.accounts.AccountType.{AccountType}
use Rattle.ph_items.specs.declared.intents.CancellationReason.{CancellationReason}
use Rattle.ph_items.specs.declared.intents.CaptureMethod.{CaptureMethod}
use Rattle.ph_items.specs.declared.payment_methods.PaymentMethod.{PaymentMethod}
use Rattle.ph_items.specs.declared.refunds.RefundReason.{RefundReason}
use Rattle.ph_form.specs.declared.leaf.Leaf.{Leaf}
use Rattle.ph_address.specs.declared.address.Address.{Address}
use Rattle.ph_address.specs.Address.{address_of}
use Rattle.ph_kinds.specs.declared.authentication.Authentication.{Authentication}
use Rattle.ph_kinds.specs.declared.flaw.Flaw.{Flaw}
use Rattle.ph_kinds.specs.declared.flaw.Flaw.TheVariants.{InvalidInteger, InvalidValue}
use Rattle.ph_kinds.specs.declared.metadata.Meta.{Meta}
use Rattle.ph_kinds.specs.Kind.{Kind}
use Rattle.ph_kinds.specs.Kind as kind
use Rattle.ph_kinds.specs.Events.{events_in}
use Rattle.ph_kinds.specs.Metadata.{cleared_in, metadata_in}
use Rattle.ph_kinds.specs.Methods.{payment_method_in}
use Rattle.ph_kinds.specs.Numbers.{amount_in, whole_in}
use Rattle.ph_kinds.specs.Words.{account_type_in, authentication_in, cancellation_reason_in, capture_method_in, currency_in, refund_reason_in, truth_in}

-- what a value of a kind is
abbrev pub Value : Kind → Type 0
Value kind.Amount = ℕ
Value kind.Number = ℕ
Value kind.Currency = Currency
Value kind.Truth = Bool
Value (kind.Text most) = List ℕ
Value kind.Id = List ℕ
Value kind.Method = PaymentMethod
Value kind.Metadata = Meta
Value kind.Events = List (List ℕ)
Value kind.Address = Address
Value kind.AccountType = AccountType
Value kind.CaptureMethod = CaptureMethod
Value kind.CancellationReason = CancellationReason
Value kind.RefundReason = RefundReason
Value kind.Authentication = Authentication

-- a text of at most so many characters
abbrev pub text_in : ℕ → List ℕ → Result (List ℕ) Flaw
text_in most text = if nat_le (length (chars text)) most then Ok text else Err InvalidValue

-- the address of an endpoint
abbrev pub address_in : List ℕ → Result Address Flaw
address_in text = ok_or (address_of text) InvalidValue

-- the value of a kind that a text is, or its flaw
abbrev pub text_value : (k : Kind) → List ℕ → Result (Value k) Flaw
text_value kind.Amount text = amount_in text
text_value kind.Number text = whole_in text
text_value kind.Currency text = currency_in text
text_value kind.Truth text = truth_in text
text_value (kind.Text most) text = text_in most text
text_value kind.Id text = Ok text
text_value kind.Method text = payment_method_in text
text_value kind.Metadata text = cleared_in text
text_value kind.Events text = Err InvalidValue
text_value kind.Address text = address_in text
text_value kind.AccountType text = account_type_in text
text_value kind.CaptureMethod text = capture_method_in text
text_value kind.CancellationReason text = cancellation_reason_in text
text_value kind.RefundReason text = refund_reason_in text
text_value kind.Authentication text = authentication_in text

-- the value of a kind that a map is, or its flaw; none of its entries are known where one is a map itself
abbrev pub map_value : (k : Kind) → Option (List Leaf) → Result (Value k) Flaw
map_value kind.Amount entries = Err InvalidInteger
map_value kind.Number entries = Err InvalidInteger
map_value kind.Currency entries = Err InvalidValue
map_value kind.Truth entries = Err InvalidValue
map_value (kind.Text most) entries = Err InvalidValue
map_value kind.Id entries = Err InvalidValue
map_value kind.Method entries = Err InvalidValue
map_value kind.Metadata entries = metadata_in entries
map_value kind.Events entries = events_in entries
map_value kind.Address entries = Err InvalidValue
map_value kind.AccountType entries = Err InvalidValue
map_value kind.CaptureMethod entries = Err InvalidValue
map_value kind.CancellationReason entries = Err InvalidValue
map_value kind.RefundReason entries = Err InvalidValue
map_value kind.Authentication entries = Err InvalidValue
