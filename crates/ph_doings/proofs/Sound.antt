-- What every doing that may come keeps.
use Rattle.std.specs.Prelude.{◌≡◌, ℕ, ◌<◌, ◌≤◌, Bool, true, false, List, [], ◌∷◌, length, Option, Some, None}
use Rattle.std.specs.List.{list_all}
use Rattle.ph_attempts.specs.declared.flights.Flight.{Flight}
use Rattle.ph_items.specs.declared.intents.IntentStatus.{IntentStatus}
use Rattle.ph_items.specs.declared.intents.IntentStatus.TheVariants as status
use Rattle.ph_items.specs.declared.orders.Order.{Order}
use Rattle.ph_doings.specs.Confirmations.{all_but_first, attempts_of_confirmation, begun_at, confirmation_of}
use Rattle.ph_doings.specs.Doings.{Doing}
use Rattle.ph_doings.specs.Runs.{NoRun, Flies, live_run}
use Rattle.ph_doings.specs.Standings.{is_approved_of, is_challenged, is_unsettled_of, standing_of}
use Rattle.ph_doings.specs.Statuses.{status_of}
use Rattle.ph_doings.proofs.Newest.{has_begun, last_of, live_order, order_flown, run_of}

-- each attempt that was begun stands, and was begun once
pub record HasOwnReferences (past : List Doing) : Type 0 where
  pub begun : (place reference : ℕ) → begun_at past place ≡ Some reference → has_begun (standing_of past reference) ≡ true
  pub differ : (place other reference : ℕ) → begun_at past place ≡ Some reference → begun_at past other ≡ Some reference
      → place ≡ other

-- a payment intent is processing exactly where its newest attempt is unsettled; no other attempt is
pub record HasNewestUnsettled (past : List Doing) : Type 0 where
  pub processing : (intent reference : ℕ) → is_unsettled_of intent (standing_of past reference) ≡ true
      → status_of past intent ≡ Some status.Processing
  pub newest : (intent reference : ℕ) → is_unsettled_of intent (standing_of past reference) ≡ true → reference ≡ last_of past intent
  pub unsettled : (intent : ℕ) → status_of past intent ≡ Some status.Processing
      → is_unsettled_of intent (standing_of past (last_of past intent)) ≡ true

-- a live run has its number, and is the newest of its attempt, which is live under its order; each live attempt has one
pub record HasLiveRuns (past : List Doing) : Type 0 where
  pub known : (run : ℕ) → length past < run → live_run past run ≡ NoRun
  pub above : (run : ℕ) (flight : Flight) → live_run past run ≡ Flies flight → 0 < run
  pub number : (run : ℕ) (flight : Flight) → live_run past run ≡ Flies flight → flight.run ≡ run
  pub newest : (run : ℕ) (flight : Flight) → live_run past run ≡ Flies flight → run ≡ run_of past flight.order.reference
  pub live : (run : ℕ) (flight : Flight) → live_run past run ≡ Flies flight
      → live_order (standing_of past flight.order.reference) ≡ Some flight.order
  pub own : (reference : ℕ) (order : Order) → live_order (standing_of past reference) ≡ Some order → order.reference ≡ reference
  pub flown : (reference : ℕ) (order : Order) → live_order (standing_of past reference) ≡ Some order
      → order_flown (live_run past (run_of past reference)) ≡ Some order

-- a payment intent that is paid, held or canceled, and so is never asked for again
abbrev pub is_over : Option IntentStatus → Bool
is_over None = false
is_over (Some status.RequiresPaymentMethod) = false
is_over (Some status.RequiresConfirmation) = false
is_over (Some status.RequiresAction) = false
is_over (Some status.Processing) = false
is_over (Some status.RequiresCapture) = true
is_over (Some status.Succeeded) = true
is_over (Some status.Canceled) = true

-- a payment intent of which an attempt was approved is over, and no other of its attempts was
pub record HasOneApproval (past : List Doing) : Type 0 where
  pub over : (intent reference : ℕ) → is_approved_of intent (standing_of past reference) ≡ true → is_over (status_of past intent) ≡ true
  pub once : (intent reference other : ℕ) → is_approved_of intent (standing_of past reference) ≡ true
      → is_approved_of intent (standing_of past other) ≡ true → reference ≡ other

-- the first, or 0
abbrev pub first_or_zero : List ℕ → ℕ
first_or_zero [] = 0
first_or_zero (first ∷ others) = first

-- confirmations of different payment intents are different; the newest attempt of a payment intent is that of its last
-- confirmation, which it has where it requires action or is processing; where it requires action that attempt was challenged;
-- and all the other attempts of a confirmation were
pub record HasChains (past : List Doing) : Type 0 where
  pub known : (intent : ℕ) → confirmation_of past intent ≤ length past
  pub apart : (intent other : ℕ) → 0 < confirmation_of past intent → confirmation_of past intent ≡ confirmation_of past other
      → intent ≡ other
  pub newest : (intent : ℕ) → 0 < confirmation_of past intent
      → first_or_zero (attempts_of_confirmation past (confirmation_of past intent)) ≡ last_of past intent
  pub confirmed : (intent : ℕ) → status_of past intent ≡ Some status.RequiresAction → 0 < confirmation_of past intent
  pub begun : (intent : ℕ) → status_of past intent ≡ Some status.Processing → 0 < confirmation_of past intent
  pub waits : (intent : ℕ) → status_of past intent ≡ Some status.RequiresAction
      → is_challenged (standing_of past (last_of past intent)) ≡ true
  pub challenged : (confirmation : ℕ) → list_all (λ reference. is_challenged (standing_of past reference))
      (all_but_first (attempts_of_confirmation past confirmation)) ≡ true

-- what holds of every past in which each doing may come after those before it
pub record IsSound (past : List Doing) : Type 0 where
  pub references : HasOwnReferences past
  pub unsettled : HasNewestUnsettled past
  pub live : HasLiveRuns past
  pub chains : HasChains past
  pub approvals : HasOneApproval past
