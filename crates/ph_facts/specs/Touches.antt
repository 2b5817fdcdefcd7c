-- What an accepted call does to payment intents and attempts.
use Rattle.std.specs.Prelude.{ℕ, Option, None, Some}
use Rattle.ph_base.specs.declared.acquirer.Ruling.{Ruling}
use Rattle.ph_items.specs.declared.intents.CaptureMethod.{CaptureMethod}
use Rattle.ph_items.specs.declared.intents.IntentStatus.{IntentStatus}
use Rattle.ph_items.specs.declared.orders.Order.{Order}

-- what begins an attempt: a confirmation, which is a create or a confirm, or an authentication
pub data Cause : Type 0 where
  Confirms Authenticates : Cause

-- what is done: nothing; a payment intent is put into a status, or edited at its status; an attempt of a payment intent begins
-- under an order, is taken up again, is parked, or is settled with its ruling, where the payment intent has this capture method
pub data Touch : Type 0 where
  Untouched : Touch
  Puts : (intent : ℕ) → IntentStatus → Touch
  Edits : (intent : ℕ) → IntentStatus → Touch
  Begins : Cause → (intent : ℕ) → Order → Touch
  Resumes : (intent : ℕ) → Order → Touch
  Parks : (intent : ℕ) → Order → Touch
  Settles : (intent : ℕ) → Order → CaptureMethod → Ruling → Touch

-- the order for which the call waits, where it begins an attempt or takes one up again
abbrev pub order_asked : Touch → Option Order
order_asked Untouched = None
order_asked (Puts intent status) = None
order_asked (Edits intent status) = None
order_asked (Begins cause intent order) = Some order
order_asked (Resumes intent order) = Some order
order_asked (Parks intent order) = None
order_asked (Settles intent order capture ruling) = None
