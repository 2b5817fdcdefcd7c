-- The test payment methods, by their names.
use Rattle.std.specs.Prelude.{ℕ, ◌==◌, ◌&&◌, nat_le, if◌then◌else◌, List, [], ◌∷◌, length, take, drop, Option, Some, None, option_map, option_and_then, Result, Ok, Err, ok_or, find, codes, bytes_eq}
use Rattle.std.specs.Option.{option_or}
use Rattle.ph_base.specs.declared.acquirer.Method.{Method}
use Rattle.ph_base.specs.declared.acquirer.Method.TheVariants.{Visa, Declined, NoFunds, Challenge, Dispute, Bypass, Slow, Lost}
use Rattle.ph_base.specs.Numbers.{number_in}
use Rattle.ph_items.specs.declared.payment_methods.PaymentMethod.{PaymentMethod}
use Rattle.ph_kinds.specs.declared.flaw.Flaw.{Flaw}
use Rattle.ph_kinds.specs.declared.flaw.Flaw.TheVariants.{NoSuchPaymentMethod}
use Rattle.ph_kinds.specs.declared.methods.NamedMethod.{NamedMethod}

-- each name with its method
unfoldable pub named_methods : List (List ℕ × Method)
named_methods =
    (codes "pm_card_visa", Visa) ∷
    (codes "pm_card_chargeDeclined", Declined) ∷
    (codes "pm_card_visa_chargeDeclined", Declined) ∷
    (codes "pm_card_chargeDeclinedInsufficientFunds", NoFunds) ∷
    (codes "pm_card_visa_chargeDeclinedInsufficientFunds", NoFunds) ∷
    (codes "pm_card_authenticationRequired", Challenge) ∷
    (codes "pm_card_createDispute", Dispute) ∷
    (codes "pm_card_bypassPending", Bypass) ∷
    (codes "pm_payhost_lost", Lost) ∷ []

-- a row of the code's table
abbrev pub named : NamedMethod → List ℕ × Method
named row = (row.name.now, row.method)

-- the first of these methods that has this name
abbrev pub first_named : List ℕ → List (List ℕ × Method) → Option Method
first_named text methods = option_map (λ row. row.1) (find (λ row. bytes_eq text row.0) methods)

-- the method with this name
abbrev pub named_method : List ℕ → Option Method
named_method text = first_named text named_methods

-- what follows a front in a text that begins with it
unfoldable pub rest_after : List ℕ → List ℕ → Option (List ℕ)
rest_after front text = if nat_le (length front) (length text) && bytes_eq (take (length front) text) front then Some (drop (length front) text) else None

-- the method that answers after so many asks, at most 1000
abbrev pub slow_by : Option ℕ → Option Method
slow_by None = None
slow_by (Some asks) = if nat_le asks 1000 then Some (Slow asks) else None

-- the same, of digits that don't begin with 0
abbrev pub slow_in : List ℕ → Option Method
slow_in [] = None
slow_in (first ∷ digits) = if first == 48 then None else slow_by (number_in (first ∷ digits))

-- the method named `pm_payhost_slow_N`
abbrev pub slow_method : List ℕ → Option Method
slow_method text = option_and_then slow_in (rest_after (codes "pm_payhost_slow_") text)

-- a payment method: one of the names
abbrev pub method_in : List ℕ → Result Method Flaw
method_in text = ok_or (option_or (named_method text) (slow_method text)) NoSuchPaymentMethod

-- a payment method with the text that named it
abbrev pub named_by : List ℕ → Result Method Flaw → Result PaymentMethod Flaw
named_by text (Err flaw) = Err flaw
named_by text (Ok method) = Ok (record { text = text; method = method })

-- the payment method of a text
abbrev pub payment_method_in : List ℕ → Result PaymentMethod Flaw
payment_method_in text = named_by text (method_in text)
