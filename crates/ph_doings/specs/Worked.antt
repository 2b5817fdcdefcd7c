-- Two pasts worked out, each doing written in front of those before it.
use Rattle.std.specs.Prelude.{ℕ, List, [], ◌∷◌}
use Rattle.ph_base.specs.declared.acquirer.Method.TheVariants as method
use Rattle.ph_base.specs.declared.acquirer.Ruling.TheVariants as ruling
use Rattle.ph_money.specs.declared.currencies.Currency.TheVariants as currency
use Rattle.ph_attempts.specs.declared.flights.Flight.{Flight}
use Rattle.ph_items.specs.declared.intents.CaptureMethod.TheVariants as capture_method
use Rattle.ph_items.specs.declared.intents.IntentStatus.TheVariants as status
use Rattle.ph_items.specs.declared.orders.Order.{Order}
use Rattle.ph_facts.specs.Touches.{Confirms, Authenticates}
use Rattle.ph_doings.specs.Doings.{Doing, Puts, Edits, Begins, Resumes, Parks, Settles}

-- an order of 20.00 US dollars under a reference
abbrev pub order : ℕ → Order
order reference = record { reference = reference; amount = 2000; currency = currency.Usd; method = method.Visa }

-- a run of a caller, under a reference
abbrev pub flight : ℕ → ℕ → ℕ → Flight
flight caller run reference = record { caller = caller; run = run; order = order reference }

-- a create that is confirmed, whose run is parked; the payment intent is edited meanwhile
abbrev pub parked : List Doing
parked = Edits 2 status.Processing ∷ Parks 2 (flight 0 1 3) ∷ Begins Confirms 2 (flight 0 1 3) ∷ []

-- another caller takes it up again, and the acquirer wants the customer to authenticate
abbrev pub challenged : List Doing
challenged = Settles 2 (flight 5 4 3) capture_method.Manual ruling.Challenge ∷ Resumes 2 (flight 5 4 3) ∷ parked

-- the customer authenticates, which begins a further attempt of the same confirmation; it is approved, held and captured
abbrev pub captured : List Doing
captured =
    Puts 2 status.Succeeded
    ∷ Settles 2 (flight 0 6 9) capture_method.Manual ruling.Approved
    ∷ Begins Authenticates 2 (flight 0 6 9)
    ∷ challenged

-- the customer doesn't authenticate; a method is chosen, and the payment intent is canceled
abbrev pub canceled : List Doing
canceled =
    Puts 2 status.Canceled
    ∷ Puts 2 status.RequiresConfirmation
    ∷ Puts 2 status.RequiresPaymentMethod
    ∷ challenged

-- two attempts: the second is parked before the first
abbrev pub two_parked : List Doing
two_parked =
    Parks 2 (flight 0 1 3) ∷ Parks 6 (flight 1 2 7)
    ∷ Begins Confirms 6 (flight 1 2 7) ∷ Begins Confirms 2 (flight 0 1 3) ∷ []

-- the one that was parked first is taken up again, and parked behind the other
abbrev pub parked_again : List Doing
parked_again = Parks 6 (flight 4 5 7) ∷ Resumes 6 (flight 4 5 7) ∷ two_parked
