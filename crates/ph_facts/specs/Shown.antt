-- What rows show of payment intents and attempts.
use Rattle.std.specs.Prelude.{◌≡◌, ℕ, List, [], ◌∷◌, Option, Some, None, option_and_then, option_map}
use Rattle.std.specs.List.{filter_map}
use Rattle.ph_items.specs.Items.{intent_in}
use Rattle.ph_items.specs.declared.attempts.Attempt.{Attempt}
use Rattle.ph_items.specs.declared.attempts.AttemptState.{AttemptState}
use Rattle.ph_items.specs.declared.attempts.AttemptState.TheVariants as state
use Rattle.ph_items.specs.declared.intents.Intent.{Intent}
use Rattle.ph_items.specs.declared.intents.IntentStatus.{IntentStatus}
use Rattle.ph_items.specs.declared.intents.IntentStatus.TheVariants as status
use Rattle.ph_items.specs.declared.items.Item.{Item}
use Rattle.ph_items.specs.declared.items.Item.TheVariants as item
use Rattle.ph_items.specs.declared.orders.Order.{Order}
use Rattle.ph_rows.specs.declared.rows.Row.{Row}
use Rattle.ph_rows.specs.Rows.{latest_of}
use Rattle.ph_facts.specs.Statuses.{state_ruled, status_ruled}
use Rattle.ph_facts.specs.Touches.{Touch, Untouched, Puts, Edits, Begins, Resumes, Parks, Settles}

-- what a row shows: the status of a payment intent, or the payment intent, the order and the state of an attempt
pub data Shown : Type 0 where
  ShowsIntent : (object : ℕ) → IntentStatus → Shown
  ShowsAttempt : (object intent : ℕ) → Order → AttemptState → Shown

-- what the row of a version of an object shows; rows of other kinds show nothing of this
abbrev pub shown_by : ℕ → Item → Option Shown
shown_by object (item.Account account) = None
shown_by object (item.Intent intent) = Some (ShowsIntent object intent.status)
shown_by object (item.Attempt attempt) = Some (ShowsAttempt object attempt.intent attempt.order attempt.state)
shown_by object (item.Charge charge) = None
shown_by object (item.Refund refund) = None
shown_by object (item.Dispute dispute) = None
shown_by object (item.Transfer transfer) = None
shown_by object (item.Reversal reversal) = None
shown_by object (item.Fee fee) = None
shown_by object (item.FeeRefund fee_refund) = None
shown_by object (item.Txn txn) = None
shown_by object (item.Event event) = None

-- what rows show, in their order
abbrev pub shown_in : List Row → List Shown
shown_in rows = filter_map (λ row. shown_by row.object row.item) rows

-- what the rows of a call show that does this
abbrev pub shows : Touch → List Shown
shows Untouched = []
shows (Puts intent status) = ShowsIntent intent status ∷ []
shows (Edits intent status) = ShowsIntent intent status ∷ []
shows (Begins cause intent order) = ShowsIntent intent status.Processing ∷ ShowsAttempt order.reference intent order state.Live ∷ []
shows (Resumes intent order) = ShowsAttempt order.reference intent order state.Live ∷ []
shows (Parks intent order) = ShowsAttempt order.reference intent order state.Parked ∷ []
shows (Settles intent order capture ruling) =
    ShowsAttempt order.reference intent order (state_ruled ruling) ∷ ShowsIntent intent (status_ruled capture ruling) ∷ []

-- the status of the payment intent in a row, where there is one
abbrev pub status_by : Row → Option IntentStatus
status_by row = option_map (λ (intent : Intent). intent.status) (intent_in row.item)

-- the status of a payment intent in its present version, where it has one
abbrev pub status_in : List Row → ℕ → Option IntentStatus
status_in rows object = option_and_then status_by (latest_of object rows)

-- a payment intent has a present version, in this status
pub record HasIntent (rows : List Row) (object : ℕ) (status : IntentStatus) : Type 0 where
  pub row : Row
  pub intent : Intent
  pub latest : latest_of object rows ≡ Some row
  pub item_is : row.item ≡ item.Intent intent
  pub status_is : intent.status ≡ status

-- an attempt has a present version, of a payment intent, under an order, in a state
pub record HasAttempt (rows : List Row) (object intent : ℕ) (order : Order) (state : AttemptState) : Type 0 where
  pub row : Row
  pub attempt : Attempt
  pub latest : latest_of object rows ≡ Some row
  pub item_is : row.item ≡ item.Attempt attempt
  pub intent_is : attempt.intent ≡ intent
  pub order_is : attempt.order ≡ order
  pub state_is : attempt.state ≡ state
