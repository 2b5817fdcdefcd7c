-- How rows show what was done: the rows of payment intents and attempts, which each doing makes. The laws don't need it; the
-- book does, whose history has rows.
use Rattle.std.specs.Prelude.{◌≡◌, ℕ, suc, List, [], ◌∷◌, ◌++◌, length, Some, None}
use Rattle.ph_base.specs.declared.acquirer.Ruling.{Ruling}
use Rattle.ph_items.specs.declared.attempts.Attempt.{Attempt}
use Rattle.ph_items.specs.declared.attempts.AttemptState.{AttemptState}
use Rattle.ph_items.specs.declared.attempts.AttemptState.TheVariants as state
use Rattle.ph_items.specs.declared.intents.CaptureMethod.{CaptureMethod}
use Rattle.ph_items.specs.declared.intents.Intent.{Intent}
use Rattle.ph_items.specs.declared.intents.IntentStatus.{IntentStatus}
use Rattle.ph_items.specs.declared.intents.IntentStatus.TheVariants as status
use Rattle.ph_items.specs.declared.items.Item.TheVariants as item
use Rattle.ph_items.specs.declared.orders.Order.{Order}
use Rattle.ph_rows.specs.Rows.{latest_of}
use Rattle.ph_rows.specs.Views.{ViewState}
use Rattle.ph_rows.specs.declared.rows.Row.{Row}
use Rattle.ph_facts.specs.Keeps.{MayBeDone}
use Rattle.ph_facts.specs.Order.{IsInOrder}
use Rattle.ph_facts.specs.Shown.{HasAttempt, HasIntent, Shown, shown_in, shows}
use Rattle.ph_facts.specs.Statuses.{state_ruled}
use Rattle.ph_facts.specs.Touches.{Touch}
use Rattle.ph_attempts.specs.declared.flights.Flight.{Flight}
use Rattle.ph_doings.specs.Doings.{Doing, Parks, Settles, doing_of, touch_of}
use Rattle.ph_doings.specs.Lawful.{IsLawful, MayDo}
use Rattle.ph_doings.specs.Runs.{Flies, live_run}
use Rattle.ph_doings.specs.Standings.{State, Live, Parked, Settled, Standing, NotBegun, Stands, standing_of}
use Rattle.ph_doings.specs.Statuses.{status_of}

-- the state that a row shows of an attempt: it doesn't say which decline
abbrev pub state_shown : State → AttemptState
state_shown Live = state.Live
state_shown Parked = state.Parked
state_shown (Settled ruling) = state_ruled ruling

-- what the rows of the past show, oldest first
abbrev pub shown_of : List Doing → List Shown
shown_of [] = []
shown_of (doing ∷ past) = shown_of past ++ shows (touch_of doing)

-- the attempt stands as a version of it says
pub record StandsAs (standing : Standing) (attempt : Attempt) : Type 0 where
  pub state : State
  pub standing_is : standing ≡ Stands attempt.intent attempt.order state
  pub state_is : state_shown state ≡ attempt.state

-- the present versions of payment intents and attempts say what was done
pub record SayPast (past : List Doing) (rows : List Row) : Type 0 where
  pub intent : (object : ℕ) (row : Row) (intent : Intent) → latest_of object rows ≡ Some row → row.item ≡ item.Intent intent
      → status_of past object ≡ Some intent.status
  pub attempt : (object : ℕ) (row : Row) (attempt : Attempt) → latest_of object rows ≡ Some row → row.item ≡ item.Attempt attempt
      → StandsAs (standing_of past object) attempt
  pub none : (object : ℕ) → latest_of object rows ≡ None → (status_of past object ≡ None) × (standing_of past object ≡ NotBegun)

-- rows that show the past say it
abbrev pub RowsSayPast : Type 0
RowsSayPast = (past : List Doing) (rows : List Row) → shown_in rows ≡ shown_of past → SayPast past rows

-- each payment intent and attempt of the past has a present version
pub record AreInRows (past : List Doing) (rows : List Row) : Type 0 where
  pub intent : (object : ℕ) (status : IntentStatus) → status_of past object ≡ Some status → HasIntent rows object status
  pub attempt : (object intent : ℕ) (order : Order) (state : State) → standing_of past object ≡ Stands intent order state
      → HasAttempt rows object intent order (state_shown state)

-- rows in their order that show the past have all of it
abbrev pub PastIsInRows : Type 0
PastIsInRows = (past : List Doing) (state : ViewState) → IsInOrder state → shown_in state.rows ≡ shown_of past → AreInRows past state.rows

-- what a call may do after rows that show the past may come after the past, by a run with the number of the next place
abbrev pub RowsLetCome : Type 0
RowsLetCome = (past : List Doing) (state : ViewState) (caller : ℕ) (touch : Touch) → IsInOrder state
    → shown_in state.rows ≡ shown_of past → MayBeDone state.rows touch → MayDo past (doing_of caller (suc (length past)) touch)

-- a run may be ended: rows have its attempt, which is live under its order, and its payment intent, which is processing; and
-- the end of it may come
pub record MayEnd (past : List Doing) (rows : List Row) (flight : Flight) : Type 0 where
  pub intent : ℕ
  pub attempt : HasAttempt rows flight.order.reference intent flight.order state.Live
  pub processing : HasIntent rows intent status.Processing
  pub parks : MayDo past (Parks intent flight)
  pub settles : (capture : CaptureMethod) (ruling : Ruling) → MayDo past (Settles intent flight capture ruling)

-- after rows that show the past, each live run may be ended
abbrev pub LiveRunsMayEnd : Type 0
LiveRunsMayEnd = (past : List Doing) (state : ViewState) (flight : Flight) → IsLawful past → IsInOrder state
    → shown_in state.rows ≡ shown_of past → live_run past flight.run ≡ Flies flight → MayEnd past state.rows flight
