-- What the ends of runs do, and the taking up of parked attempts: of every past, whatever is asked for.
use Rattle.std.specs.Prelude.{◌≡◌, ℕ, suc, ◌==◌, if◌then◌else◌, List, length, Option, Some, None}
use Rattle.ph_base.specs.declared.acquirer.Ruling.{Ruling}
use Rattle.ph_attempts.specs.declared.flights.Flight.{Flight}
use Rattle.ph_items.specs.declared.intents.CaptureMethod.{CaptureMethod}
use Rattle.ph_items.specs.declared.orders.Order.{Order}
use Rattle.ph_doings.specs.Doings.{Doing, Leaves, Resumes, Parks, Settles}
use Rattle.ph_doings.specs.Lawful.{IsLawful, MayDo}
use Rattle.ph_doings.specs.Parks.{first_parked}
use Rattle.ph_doings.specs.Runs.{Run, NoRun, Flies, live_run}
use Rattle.ph_doings.specs.Standings.{Live, Parked, Settled, Standing, NotBegun, Stands, standing_of}

-- what is done to the payment intent of an attempt, where it has begun
abbrev pub for_intent : (ℕ → Doing) → Standing → Doing
for_intent does NotBegun = Leaves
for_intent does (Stands intent order state) = does intent

-- what a caller does with a run, where it is live and its own
abbrev pub with_own : (Flight → Doing) → ℕ → Run → Doing
with_own does caller NoRun = Leaves
with_own does caller (Flies flight) = if flight.caller == caller then does flight else Leaves

-- a ruling on a run of a caller: its attempt is settled, where the run is live and the caller's; the capture method is that of
-- the payment intent
abbrev pub finish_of : List Doing → ℕ → ℕ → (ℕ → CaptureMethod) → Ruling → Doing
finish_of past caller run capture ruling =
    with_own (λ flight. for_intent (λ intent. Settles intent flight (capture intent) ruling) (standing_of past flight.order.reference))
    caller (live_run past run)

-- a run of a caller that is given up: its attempt is parked, where the run is live and the caller's
abbrev pub park_of : List Doing → ℕ → ℕ → Doing
park_of past caller run =
    with_own (λ flight. for_intent (λ intent. Parks intent flight) (standing_of past flight.order.reference)) caller (live_run past run)

-- the next run of a caller, under an order
abbrev pub next_flight : List Doing → ℕ → Order → Flight
next_flight past caller order = record { caller = caller; run = suc (length past); order = order }

-- a parked attempt that a caller takes up again, where it is parked
abbrev pub resumed_by : List Doing → ℕ → Standing → Doing
resumed_by past caller NotBegun = Leaves
resumed_by past caller (Stands intent order Live) = Leaves
resumed_by past caller (Stands intent order Parked) = Resumes intent (next_flight past caller order)
resumed_by past caller (Stands intent order (Settled ruling)) = Leaves

-- the attempt of a reference, which a caller takes up again where it is parked
abbrev pub resume_of : List Doing → ℕ → ℕ → Doing
resume_of past caller reference = resumed_by past caller (standing_of past reference)

-- the parked attempt whose last park stands earliest, where one is parked
abbrev pub resume_order : List Doing → ℕ → Option Order → Doing
resume_order past caller None = Leaves
resume_order past caller (Some order) = resume_of past caller order.reference

abbrev pub resume_first : List Doing → ℕ → Doing
resume_first past caller = resume_order past caller (first_parked past)

-- each of these may come after every past in which each doing may come after those before it
pub record EndsMayCome (past : List Doing) : Type 0 where
  pub finish : (caller run : ℕ) (capture : ℕ → CaptureMethod) (ruling : Ruling) → MayDo past (finish_of past caller run capture ruling)
  pub park : (caller run : ℕ) → MayDo past (park_of past caller run)
  pub resume : (caller reference : ℕ) → MayDo past (resume_of past caller reference)
  pub resume_first : (caller : ℕ) → MayDo past (resume_first past caller)

-- an end of a live run by its own caller ends it, for the payment intent of its attempt
pub record EndsEnd (past : List Doing) (flight : Flight) : Type 0 where
  pub intent : ℕ
  pub finish : (capture : ℕ → CaptureMethod) (ruling : Ruling)
      → finish_of past flight.caller flight.run capture ruling ≡ Settles intent flight (capture intent) ruling
  pub park : park_of past flight.caller flight.run ≡ Parks intent flight

abbrev pub EndsAreTotal : Type 0
EndsAreTotal = (past : List Doing) → IsLawful past → EndsMayCome past

abbrev pub LiveRunsEnd : Type 0
LiveRunsEnd = (past : List Doing) (flight : Flight) → IsLawful past → live_run past flight.run ≡ Flies flight → EndsEnd past flight
