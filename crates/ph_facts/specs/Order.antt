-- What holds of each row as soon as it is added.
use Rattle.std.specs.Prelude.{◌≡◌, ℕ, ◌+◌, ◌^◌, ◌≤◌, ◌<◌, true, List, [], ◌∷◌, ◌++◌, Option, None, Some, length}
use Rattle.std.specs.List.{list_all}
use Rattle.std.specs.Str.{is_utf8}
use Rattle.ph_items.specs.declared.charges.Charge.{Charge}
use Rattle.ph_items.specs.declared.events.Event.{Event}
use Rattle.ph_items.specs.declared.items.Item.{Item}
use Rattle.ph_items.specs.declared.items.Item.TheVariants as item
use Rattle.ph_items.specs.Clocks.{clock_limit}
use Rattle.ph_items.specs.Kinds.{kind_of}
use Rattle.ph_items.specs.Weights.{texts_of}
use Rattle.ph_items.specs.Words.{subject_of}
use Rattle.ph_rows.specs.declared.rows.Row.{Row}
use Rattle.ph_rows.specs.Rows.{row_at}
use Rattle.ph_rows.specs.Views.{ViewState}
use Rattle.ph_facts.specs.Origins.{HasOrigins, is_made_once, origins_of}

-- a row is a version of the object that another row begins
pub record IsVersionOf (first row : Row) : Type 0 where
  pub object : first.object ≡ row.object
  pub account : first.account ≡ row.account
  pub kind : kind_of first.item ≡ kind_of row.item

-- a row is a version of the object that begins here, and one does
abbrev pub HasBegun : Option Row → Row → Type 0
HasBegun None row = ⊥
HasBegun (Some first) row = IsVersionOf first row

-- the row of an event speaks of the object that another row begins: of its type's kind, and of the same account
pub record SpeaksOf (first row : Row) (event : Event) : Type 0 where
  pub object : first.object ≡ event.object
  pub kind : kind_of first.item ≡ subject_of event.sort
  pub account : first.account ≡ row.account

-- the row of an event speaks of the object that begins here, and one does
abbrev pub HasSubject : Option Row → Row → Event → Type 0
HasSubject None row event = ⊥
HasSubject (Some first) row event = SpeaksOf first row event

-- no more was captured of a charge than the acquirer was asked for, and no more was refunded, or transferred, than was captured
pub record IsWithin (charge : Charge) : Type 0 where
  pub captured : charge.amount_captured ≤ charge.amount
  pub refunded : charge.amount_refunded ≤ charge.amount_captured
  pub transferred : charge.amount_transferred ≤ charge.amount_captured

-- the amounts of a version fit one another: those of a charge; no more was reversed of a transfer than its amount, and no more given
-- back of an application fee than it is
abbrev pub AmountsFit : Item → Type 0
AmountsFit (item.Account account) = Unit {0}
AmountsFit (item.Intent intent) = Unit {0}
AmountsFit (item.Attempt attempt) = Unit {0}
AmountsFit (item.Charge charge) = IsWithin charge
AmountsFit (item.Refund refund) = Unit {0}
AmountsFit (item.Dispute dispute) = Unit {0}
AmountsFit (item.Transfer transfer) = transfer.amount_reversed ≤ transfer.amount
AmountsFit (item.Reversal reversal) = Unit {0}
AmountsFit (item.Fee fee) = fee.amount_refunded ≤ fee.amount
AmountsFit (item.FeeRefund fee_refund) = Unit {0}
AmountsFit (item.Txn txn) = Unit {0}
AmountsFit (item.Event event) = Unit {0}

-- what holds of the time and of each row, as soon as the row is added
pub record IsInOrder (state : ViewState) : Type 0 where
  -- the time is one that a clock shows
  pub clock : state.time ≤ clock_limit
  -- sixteen digits number the rows
  pub few : length state.rows < 10 ^ 16
  -- a row's place is its position
  pub placed : (place : ℕ) (row : Row) → row_at place state.rows ≡ Some row → row.place ≡ place
  -- the row of an object's number is its first version; every version is of its account and its kind
  pub begun : (place : ℕ) (row : Row) → row_at place state.rows ≡ Some row → HasBegun (row_at row.object state.rows) row
  -- no version of an object stands before its first one
  pub first : (place : ℕ) (row : Row) → row_at place state.rows ≡ Some row → row.object ≤ place
  -- refunds, reversals, fee refunds, transactions and events have one version
  pub once : (place : ℕ) (row : Row) → row_at place state.rows ≡ Some row → is_made_once row.item ≡ true → row.object ≡ place
  -- no row is of a later time
  pub past : (place : ℕ) (row : Row) → row_at place state.rows ≡ Some row → row.at ≤ state.time
  -- every text is UTF-8
  pub texts : (place : ℕ) (row : Row) → row_at place state.rows ≡ Some row → list_all is_utf8 (texts_of row.item) ≡ true
  -- the amounts of a version fit one another
  pub within : (place : ℕ) (row : Row) → row_at place state.rows ≡ Some row → AmountsFit row.item
  -- the objects that it names are there
  pub origins : (place : ℕ) (row : Row) → row_at place state.rows ≡ Some row → HasOrigins state.rows (origins_of row.item)
  -- an event stands after the first version of its object, which is of its account and of its type's kind
  pub events : (place : ℕ) (row : Row) (event : Event) → row_at place state.rows ≡ Some row → row.item ≡ item.Event event
      → (event.object < place) × HasSubject (row_at event.object state.rows) row event

-- the view with one row more
abbrev pub with_next : ViewState → Row → ViewState
with_next state row = record state { rows = state.rows ++ row ∷ [] }

-- a row that an entry may add: at the next place and the view's time, of a new object or a further version of one
pub record MayFollow (state : ViewState) (row : Row) : Type 0 where
  pub few : length state.rows + 1 < 10 ^ 16
  pub place : row.place ≡ length state.rows + 1
  pub at : row.at ≡ state.time
  pub begun : HasBegun (row_at row.object (state.rows ++ row ∷ [])) row
  pub first : row.object ≤ row.place
  pub once : is_made_once row.item ≡ true → row.object ≡ row.place
  pub texts : list_all is_utf8 (texts_of row.item) ≡ true
  pub within : AmountsFit row.item
  pub origins : HasOrigins state.rows (origins_of row.item)
  pub events : (event : Event) → row.item ≡ item.Event event → HasSubject (row_at event.object state.rows) row event

-- rows that an entry may add one after another
abbrev pub AllMayFollow : ViewState → List Row → Type 0
AllMayFollow state [] = Unit {0}
AllMayFollow state (row ∷ rows) = MayFollow state row × AllMayFollow (with_next state row) rows
