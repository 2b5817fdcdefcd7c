-- The application fee of a payment intent: what an update or a capture may name.
use Rattle.std.specs.Prelude.{ℕ, ◌==◌, ◌&&◌, ◌||◌, Bool, Option, is_none}
use Rattle.std.specs.Option.{option_or}
use Rattle.ph_calls.specs.Intents.{is_fee_above}
use Rattle.ph_items.specs.Accounts.{platform}
use Rattle.ph_items.specs.declared.intents.Intent.{Intent}

-- a fee above 0 is named of a payment intent that the platform makes for itself, without a destination
abbrev pub is_of_nobody : ℕ → Option ℕ → Option ℕ → Bool
is_of_nobody account destination fee = is_fee_above fee 0 && account == platform && is_none destination

-- the fee that is named of a payment intent of an account isn't possible, where so much of it is to be captured
abbrev pub is_wrong_fee : ℕ → Option ℕ → Option ℕ → ℕ → Bool
is_wrong_fee account destination fee amount = is_fee_above fee amount || is_of_nobody account destination fee

-- a payment intent of which the platform takes what is named, or else what it takes as it is
abbrev pub with_fee : Option ℕ → Intent → Intent
with_fee fee intent = record intent { application_fee_amount = option_or fee intent.application_fee_amount }
