-- What holds of the rows of every legal history.
use Rattle.std.specs.Prelude.{◌≡◌, ◌≢◌, ℕ, ◌+◌, ◌≤◌, ℤ, pos, ◌+ℤ◌, ◌≤ℤ◌, nat_le, not, List, [], ◌∷◌, ◌++◌, length, Option, Some, None, true}
use Rattle.std.specs.List.{filter, list_all}
use Rattle.ph_base.specs.declared.acquirer.Ruling.{Ruling}
use Rattle.ph_base.specs.declared.acquirer.Why.{Why}
use Rattle.ph_attempts.specs.Attempts.{is_same_run}
use Rattle.ph_attempts.specs.declared.flights.Flight.{Flight}
use Rattle.ph_doings.specs.Confirmations.{all_but_first, attempts_of_confirmation, begun_at}
use Rattle.ph_doings.specs.Doings.{Doing}
use Rattle.ph_doings.specs.Rows.{MayEnd}
use Rattle.ph_doings.specs.Runs.{Flies, live_run, live_runs}
use Rattle.ph_doings.specs.Standings.{is_challenged, standing_of}
use Rattle.ph_money.specs.declared.currencies.Currency.{Currency}
use Rattle.ph_http.specs.declared.message.Raw.{Raw}
use Rattle.ph_http.specs.declared.message.Reply.{Reply}
use Rattle.ph_items.specs.declared.orders.Order.{Order}
use Rattle.ph_rows.specs.declared.rows.Row.{Row}
use Rattle.ph_items.specs.declared.charges.Charge.{Charge}
use Rattle.ph_items.specs.declared.charges.ChargeSort.TheVariants as charge_sort
use Rattle.ph_items.specs.declared.disputes.Dispute.{Dispute}
use Rattle.ph_items.specs.declared.disputes.DisputeStatus.{DisputeStatus}
use Rattle.ph_items.specs.declared.disputes.DisputeStatus.TheVariants as dispute_status
use Rattle.ph_items.specs.declared.fees.Fee.{Fee}
use Rattle.ph_items.specs.declared.intents.Intent.{Intent}
use Rattle.ph_items.specs.declared.intents.IntentStatus.TheVariants as status
use Rattle.ph_items.specs.declared.items.Item.TheVariants as item
use Rattle.ph_items.specs.declared.transfers.Transfer.{Transfer}
use Rattle.ph_rows.specs.Balances.{available_of, movements_of, net_of, pending_of}
use Rattle.ph_items.specs.Kinds.{kind_of}
use Rattle.ph_rows.specs.Rows.{latest_of, row_at}
use Rattle.ph_facts.specs.Held.{charge_of}
use Rattle.ph_facts.specs.Amounts.{Move, captured_of, given_back_of, moves_in, moves_of, refunded_of, reversed_of, transferred_of}
use Rattle.ph_views.specs.Values.{printed_id}
use Rattle.ph_book.specs.declared.acts.Deed.{Deed}
use Rattle.ph_book.specs.declared.acts.Deed.TheVariants as deed
use Rattle.ph_book.specs.declared.acts.Entry.{Entry}
use Rattle.ph_book.specs.declared.setup.Setup.{Setup}
use Rattle.ph_book.specs.Entries.{call_entry, finish_entry, park_entry, resume_entry}
use Rattle.ph_book.specs.History.{doings_of, said_to}
use Rattle.ph_book.specs.Replies.{Replies, Waits, Silence}
use Rattle.ph_book.specs.Tickets.{Holds}

-- the printed id of a row's object
abbrev pub id_of : Row → List ℕ
id_of row = printed_id (kind_of row.item) row.object

-- in each account and currency, what is available and what is pending are together the sum of what the transactions move, whatever the time
abbrev pub BalancesAreSums : List Row → Type 0
BalancesAreSums rows = (account : ℕ) (currency : Currency) (time : ℕ)
    → available_of account currency time rows +ℤ pending_of account currency time rows ≡ net_of (movements_of account currency rows)

-- what can be captured of a payment intent is what was authorised of its latest charge, less what was captured of that
pub record IsLeftOf (object : ℕ) (rows : List Row) (intent : Intent) : Type 0 where
  pub number : ℕ
  pub charge : Charge
  pub latest : intent.latest_charge ≡ Some number
  pub version : charge_of rows number ≡ Some charge
  pub pays : charge.sort ≡ charge_sort.Card object
  pub left : pos intent.amount_capturable +ℤ captured_of number rows ≡ pos charge.amount

-- the amounts of some moves together
abbrev pub amount_of : List Move → ℤ
amount_of [] = pos 0
amount_of (move ∷ moves) = move.amount +ℤ amount_of moves

-- what a dispute of an amount has taken on the whole in a status: the amount, and nothing where it is won
abbrev pub taken_in : DisputeStatus → ℕ → ℤ
taken_in dispute_status.NeedsResponse amount = pos amount
taken_in dispute_status.UnderReview amount = pos amount
taken_in dispute_status.Won amount = pos 0
taken_in dispute_status.Lost amount = pos amount

-- the amounts that the present versions of charges, transfers, application fees, payment intents and disputes say are sums over the rows
pub record AmountsAreSums (rows : List Row) : Type 0 where
  -- what was captured is the sum of its transactions of type charge, or of type payment
  pub captured : (object : ℕ) (row : Row) (charge : Charge) → latest_of object rows ≡ Some row → row.item ≡ item.Charge charge
      → pos charge.amount_captured ≡ captured_of object rows
  -- what was refunded is the sum of its refunds
  pub refunded : (object : ℕ) (row : Row) (charge : Charge) → latest_of object rows ≡ Some row → row.item ≡ item.Charge charge
      → charge.amount_refunded ≡ refunded_of object rows
  -- what was transferred of a charge is the sum of the transfers that are drawn on it
  pub transferred : (object : ℕ) (row : Row) (charge : Charge) → latest_of object rows ≡ Some row → row.item ≡ item.Charge charge
      → charge.amount_transferred ≡ transferred_of object rows
  -- what was reversed of a transfer is the sum of its reversals
  pub reversed : (object : ℕ) (row : Row) (transfer : Transfer) → latest_of object rows ≡ Some row → row.item ≡ item.Transfer transfer
      → transfer.amount_reversed ≡ reversed_of object rows
  -- what was given back of an application fee is the sum of its refunds
  pub given_back : (object : ℕ) (row : Row) (fee : Fee) → latest_of object rows ≡ Some row → row.item ≡ item.Fee fee
      → fee.amount_refunded ≡ given_back_of object rows
  -- what can be captured of a payment intent that waits for its capture is what is left of what was authorised of its charge
  pub capturable : (object : ℕ) (row : Row) (intent : Intent) → latest_of object rows ≡ Some row → row.item ≡ item.Intent intent
      → intent.status ≡ status.RequiresCapture → IsLeftOf object rows intent
  -- what a dispute has taken, its amount, or nothing where it is won, is what its transactions take together
  pub disputed : (object : ℕ) (row : Row) (dispute : Dispute) → latest_of object rows ≡ Some row → row.item ≡ item.Dispute dispute
      → amount_of (moves_of object rows) +ℤ taken_in dispute.status dispute.amount ≡ pos 0

-- the refunds of a charge add up to no more than what was captured of it
abbrev pub RefundsFit : List Row → Type 0
RefundsFit rows = (object : ℕ) (row : Row) (charge : Charge) → latest_of object rows ≡ Some row → row.item ≡ item.Charge charge
    → pos (refunded_of object rows) ≤ℤ captured_of object rows

-- the transfers that are drawn on a charge add up to no more than what was captured of it
abbrev pub TransfersFit : List Row → Type 0
TransfersFit rows = (object : ℕ) (row : Row) (charge : Charge) → latest_of object rows ≡ Some row → row.item ≡ item.Charge charge
    → pos (transferred_of object rows) ≤ℤ captured_of object rows

-- the reversals of a transfer add up to no more than its amount
abbrev pub ReversalsFit : List Row → Type 0
ReversalsFit rows = (object : ℕ) (row : Row) (transfer : Transfer) → latest_of object rows ≡ Some row → row.item ≡ item.Transfer transfer
    → reversed_of object rows ≤ transfer.amount

-- the refunds of an application fee add up to no more than the fee
abbrev pub FeeRefundsFit : List Row → Type 0
FeeRefundsFit rows = (object : ℕ) (row : Row) (fee : Fee) → latest_of object rows ≡ Some row → row.item ≡ item.Fee fee
    → given_back_of object rows ≤ fee.amount

-- the transactions of a dispute are one that takes its amount and the fee, and one that gives the amount back exactly where it is won
abbrev pub DisputesMoveOnce : List Row → Type 0
DisputesMoveOnce rows = (object : ℕ) (row : Row) (dispute : Dispute) → latest_of object rows ≡ Some row
    → row.item ≡ item.Dispute dispute → moves_of object rows ≡ moves_in dispute.status dispute.amount

-- first versions at different places have different ids
abbrev pub HaveDifferentIds : List Row → Type 0
HaveDifferentIds rows =
    (p q : ℕ) (first second : Row) → row_at p rows ≡ Some first → row_at q rows ≡ Some second
    → first.object ≡ first.place → second.object ≡ second.place → id_of first ≡ id_of second → p ≡ q

-- different attempts have different references: the entries that began an attempt of one reference are one
abbrev pub HaveDifferentReferences : List Doing → Type 0
HaveDifferentReferences past = (place other reference : ℕ) → begun_at past place ≡ Some reference → begun_at past other ≡ Some reference
    → place ≡ other

-- of a confirmation's attempts all but the newest are settled with a challenge
abbrev pub WereChallenged : List Doing → Type 0
WereChallenged past = (confirmation : ℕ) → list_all (λ reference. is_challenged (standing_of past reference))
    (all_but_first (attempts_of_confirmation past confirmation)) ≡ true

-- the rows have the attempt of each live run, live under its order, and its payment intent, which is processing
abbrev pub RunsAreShown : List Doing → List Row → Type 0
RunsAreShown past rows = (flight : Flight) → live_run past flight.run ≡ Flies flight → MayEnd past rows flight

-- the live runs of a history, in the order in which they began
abbrev pub runs_of : Setup → List Entry → List Flight
runs_of setup history = live_runs (doings_of setup history)

-- runs but this one
abbrev pub all_but_run : Flight → List Flight → List Flight
all_but_run flight flights = filter (λ other. not (is_same_run flight other)) flights

-- the number of the run that a deed is to end
abbrev pub ended_in : Deed → Option ℕ
ended_in (deed.Call raw) = None
ended_in (deed.Finish run ruling) = Some run
ended_in (deed.Park run why) = Some run
ended_in deed.Resume = None
ended_in (deed.Tick moment) = None

-- the live runs after one entry more
pub record RunsFollow (setup : Setup) (history : List Entry) : Type 0 where
  -- a call that is answered leaves them as they are
  pub answered : (caller : ℕ) (raw : Raw) (reply : Reply) → said_to setup history (call_entry caller raw) ≡ Replies reply
      → runs_of setup (history ++ call_entry caller raw ∷ []) ≡ runs_of setup history
  -- the run of a call that waits stands behind them
  pub begun : (caller : ℕ) (raw : Raw) (order : Order) → said_to setup history (call_entry caller raw) ≡ Waits order
      → runs_of setup (history ++ call_entry caller raw ∷ [])
      ≡ runs_of setup history ++ record { caller = caller; run = length history + 1; order = order } ∷ []
  -- so does that of the run by which an attempt is taken up again; where none is parked, they stay as they are
  pub passed : (caller : ℕ) → said_to setup history (resume_entry caller) ≡ Silence
      → runs_of setup (history ++ resume_entry caller ∷ []) ≡ runs_of setup history
  pub taken : (caller : ℕ) (order : Order) → said_to setup history (resume_entry caller) ≡ Waits order
      → runs_of setup (history ++ resume_entry caller ∷ [])
      ≡ runs_of setup history ++ record { caller = caller; run = length history + 1; order = order } ∷ []
  -- a ruling on a caller's own run, and the park of it, take it out
  pub settled : (caller : ℕ) (ticket : Flight) (ruling : Ruling) → Holds setup history caller ticket
      → runs_of setup (history ++ finish_entry caller ticket ruling ∷ []) ≡ all_but_run ticket (runs_of setup history)
  pub parked : (caller : ℕ) (ticket : Flight) (why : Why) → Holds setup history caller ticket
      → runs_of setup (history ++ park_entry caller ticket why ∷ []) ≡ all_but_run ticket (runs_of setup history)
  -- each has the number of an entry that stands
  pub numbered : list_all (λ flight. nat_le flight.run (length history)) (runs_of setup history) ≡ true
  pub places : (caller : ℕ) (ticket : Flight) → Holds setup history caller ticket → ticket.run ≤ length history
  -- the run of a caller's ticket stays live until the caller's own end of it, whatever is entered
  pub stays : (entry : Entry) (caller : ℕ) (ticket : Flight) → Holds setup history caller ticket
      → (entry.caller ≡ caller → ended_in entry.deed ≢ Some ticket.run) → Holds setup (history ++ entry ∷ []) caller ticket
