-- The kinds of parameters.
use Rattle.std.specs.Prelude.{ℕ}

-- an amount of money, a number, a currency, a truth value, a text of at most so many characters, an id, a payment method, metadata, a
-- list of event types, the address of an endpoint, or one of the words of a list
pub data Kind : Type 0 where
  Amount : Kind
  Number : Kind
  Currency : Kind
  Truth : Kind
  Text : ℕ → Kind
  Id : Kind
  Method : Kind
  Metadata : Kind
  Events : Kind
  Address : Kind
  AccountType : Kind
  CaptureMethod : Kind
  CancellationReason : Kind
  RefundReason : Kind
  Authentication : Kind
