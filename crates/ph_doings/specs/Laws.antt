-- The laws of attempts, over every past in which each doing may come after those before it.
use Rattle.std.specs.Prelude.{◌≡◌, ◌≢◌, ℕ, ◌+◌, ◌<◌, ◌↔◌, true, false, List, ◌∷◌, length, Option, Some, None}
use Rattle.std.specs.List.{list_all}
use Rattle.ph_attempts.specs.Attempts.{Step, after, flight_of, live_in, parked_in}
use Rattle.ph_attempts.specs.declared.flights.Attempt.{Attempt}
use Rattle.ph_attempts.specs.declared.flights.Flight.{Flight}
use Rattle.ph_items.specs.declared.orders.Order.{Order}
use Rattle.ph_items.specs.declared.intents.IntentStatus.TheVariants as status
use Rattle.ph_doings.specs.Confirmations.{all_but_first, attempts_of_confirmation, begun_at}
use Rattle.ph_doings.specs.Doings.{Doing}
use Rattle.ph_doings.specs.Kept.{attempts_after, run_in}
use Rattle.ph_doings.specs.Lawful.{IsLawful}
use Rattle.ph_doings.specs.Parks.{first_parked, parked_at, parked_attempts}
use Rattle.ph_doings.specs.Runs.{Flies, live_run, live_runs, runs_begun, runs_ended}
use Rattle.ph_doings.specs.Standings.{Live, Parked, Stands, is_approved_of, is_challenged, is_parked, is_unsettled_of, standing_of}
use Rattle.ph_doings.specs.Statuses.{status_of}

-- different attempts have different references: those which began an attempt of one reference are one doing
abbrev pub ReferencesDiffer : Type 0
ReferencesDiffer = (past : List Doing) → IsLawful past → (place other reference : ℕ)
    → begun_at past place ≡ Some reference → begun_at past other ≡ Some reference → place ≡ other

-- a payment intent is processing exactly where it has an attempt that isn't settled, and it never has two
pub record HasOneUnsettled (past : List Doing) : Type 0 where
  pub exactly : (intent : ℕ) → (status_of past intent ≡ Some status.Processing)
      ↔ ((reference : ℕ) × (is_unsettled_of intent (standing_of past reference) ≡ true))
  pub never_two : (intent reference other : ℕ) → is_unsettled_of intent (standing_of past reference) ≡ true
      → is_unsettled_of intent (standing_of past other) ≡ true → reference ≡ other

abbrev pub ProcessingHasOneAttempt : Type 0
ProcessingHasOneAttempt = (past : List Doing) → IsLawful past → HasOneUnsettled past

-- of a confirmation's attempts all but the newest are settled with a challenge
abbrev pub AllButTheLastWereChallenged : Type 0
AllButTheLastWereChallenged = (past : List Doing) → IsLawful past → (confirmation : ℕ)
    → list_all (λ reference. is_challenged (standing_of past reference))
    (all_but_first (attempts_of_confirmation past confirmation)) ≡ true

-- a payment intent is approved at most once: no two of its attempts are settled with an approval
abbrev pub ApprovedOnce : Type 0
ApprovedOnce = (past : List Doing) → IsLawful past → (intent reference other : ℕ)
    → is_approved_of intent (standing_of past reference) ≡ true → is_approved_of intent (standing_of past other) ≡ true
    → reference ≡ other

-- what the run of a flight finds: its attempt is live under its order, and is of a payment intent that is processing
pub record Finds (past : List Doing) (flight : Flight) : Type 0 where
  pub intent : ℕ
  pub standing : standing_of past flight.order.reference ≡ Stands intent flight.order Live
  pub processing : status_of past intent ≡ Some status.Processing

-- the live run of an attempt
pub record IsFlown (past : List Doing) (reference : ℕ) : Type 0 where
  pub flight : Flight
  pub live : live_run past flight.run ≡ Flies flight
  pub reference_is : flight.order.reference ≡ reference

-- live runs are those of the live attempts, one each, and have their own numbers
pub record RunsFlyAttempts (past : List Doing) : Type 0 where
  pub number : (run : ℕ) (flight : Flight) → live_run past run ≡ Flies flight → flight.run ≡ run
  pub finds : (run : ℕ) (flight : Flight) → live_run past run ≡ Flies flight → Finds past flight
  pub flown : (reference intent : ℕ) (order : Order) → standing_of past reference ≡ Stands intent order Live → IsFlown past reference
  pub never_two : (run other : ℕ) (flight second : Flight) → live_run past run ≡ Flies flight → live_run past other ≡ Flies second
      → flight.order.reference ≡ second.order.reference → run ≡ other

abbrev pub LiveIsRun : Type 0
LiveIsRun = (past : List Doing) → IsLawful past → RunsFlyAttempts past

-- the attempts that are kept are the live runs, in the order in which they began, and the parked attempts, in the order of
-- their last parks
pub record KeepsUnsettled (past : List Doing) : Type 0 where
  pub live : live_in (attempts_after past) ≡ live_runs past
  pub parked : parked_in (attempts_after past) ≡ parked_attempts past

abbrev pub AttemptsAreUnsettled : Type 0
AttemptsAreUnsettled = (past : List Doing) → IsLawful past → KeepsUnsettled past

-- of the parked attempts this order's was last parked earliest, and began with this order
pub record IsFirstParked (past : List Doing) (order : Order) : Type 0 where
  pub intent : ℕ
  pub standing : standing_of past order.reference ≡ Stands intent order Parked
  pub earliest : (reference : ℕ) → is_parked (standing_of past reference) ≡ true → reference ≢ order.reference
      → parked_at past order.reference < parked_at past reference

-- the first parked one, or that none is parked
abbrev pub FirstOf : List Doing → Option Order → Type 0
FirstOf past (Some order) = IsFirstParked past order
FirstOf past None = (reference : ℕ) → is_parked (standing_of past reference) ≡ false

-- the first of the parked attempts is that whose last park stands earliest, and none where none is parked
abbrev pub FirstParkedIsEarliest : Type 0
FirstParkedIsEarliest = (past : List Doing) → IsLawful past → FirstOf past (first_parked past)

-- the live run of a caller with a number is found among the attempts that are kept, and nothing else is
pub record FindsRuns (past : List Doing) : Type 0 where
  pub found : (caller run : ℕ) (flight : Flight) → run_in (attempts_after past) caller run ≡ Some flight
      → (live_run past run ≡ Flies flight) × (flight.run ≡ run) × (flight.caller ≡ caller)
  pub finds : (run : ℕ) (flight : Flight) → live_run past run ≡ Flies flight → run_in (attempts_after past) flight.caller run ≡ Some flight

abbrev pub RunsAreFound : Type 0
RunsAreFound = (past : List Doing) → IsLawful past → FindsRuns past

-- whatever is kept, the live run of a caller stays it through every step of other callers' runs
abbrev pub RunsStay : Type 0
RunsStay = (attempts : List Attempt) (step : Step) (caller run : ℕ) (flight : Flight) → run_in attempts caller run ≡ Some flight
    → (flight_of step).caller ≢ caller → run_in (after attempts step) caller run ≡ Some flight

-- a doing that may come leaves as many live runs as there were, with those that it begins and without those that it ends
abbrev pub RunsAreCounted : Type 0
RunsAreCounted = (past : List Doing) (doing : Doing) → IsLawful (doing ∷ past)
    → length (live_runs (doing ∷ past)) + runs_ended doing ≡ length (live_runs past) + runs_begun doing
