-- What a call comes to, in the order of its refusals.
use Rattle.std.specs.Option.{option_or}
use Rattle.std.specs.Prelude.{ℕ, ◌==◌, Bool, true, false, nat_lt, if◌then◌else◌, List, length, Option, Some, None, codes}
use Rattle.ph_base.specs.declared.ids.Kind.{Kind}
use Rattle.ph_base.specs.declared.ids.Kind.TheVariants as kind
use Rattle.ph_rows.specs.declared.rows.Row.{Row}
use Rattle.ph_rows.specs.Batches.{BatchState, empty_batch, with_row}
use Rattle.ph_rows.specs.Names.{owned_named}
use Rattle.ph_json.specs.declared.doc.Doc.{Doc}
use Rattle.ph_errors.specs.declared.api_error.ApiError.{ApiError}
use Rattle.ph_errors.specs.Table.{ClockBackwards, KeyDiffers, KeyInUse, NoSuchObject, error_of}
use Rattle.ph_http.specs.declared.message.Raw.{Raw}
use Rattle.ph_kinds.specs.declared.authentication.Authentication.{Authentication}
use Rattle.ph_kinds.specs.declared.authentication.Authentication.TheVariants.{Succeeded, Failed}
use Rattle.ph_calls.specs.declared.call.Authenticate.{Authenticate}
use Rattle.ph_calls.specs.declared.call.CreateIntent.{CreateIntent}
use Rattle.ph_calls.specs.declared.call.Call.{Call}
use Rattle.ph_calls.specs.declared.call.Call.TheVariants as call
use Rattle.ph_facts.specs.Outcomes.{Outcome, Refuses, Adds}
use Rattle.ph_facts.specs.Touches.{Untouched, Resumes}
use Rattle.ph_doings.specs.Records.{Found}
use Rattle.ph_doings.specs.Records as found
use Rattle.ph_idem.specs.declared.asked.Asked.{Asked}
use Rattle.ph_idem.specs.declared.key_record.Saved.{Saved}
use Rattle.ph_items.specs.declared.attempts.Attempt.{Attempt}
use Rattle.ph_items.specs.declared.attempts.AttemptState.TheVariants as state
use Rattle.ph_items.specs.declared.items.Item.TheVariants as item
use Rattle.ph_items.specs.Items.{attempt_in}
use Rattle.ph_rows.specs.Rows.{latest_of}
use Rattle.ph_book.specs.declared.judged.Judged.{Judged}
use Rattle.ph_book.specs.declared.judged.Judged.TheVariants.{Refused, Accepted}
use Rattle.ph_book.specs.Keys.{request_of}
use Rattle.ph_views.specs.Balances.{balance_doc}
use Rattle.ph_items.specs.Kinds.{kind_number}
use Rattle.ph_accounts.specs.Create as accounts
use Rattle.ph_intents.specs.Authenticate.{authenticate_outcome, fail_authentication_outcome}
use Rattle.ph_intents.specs.Cancel.{cancel_outcome}
use Rattle.ph_intents.specs.Capture.{capture_outcome}
use Rattle.ph_intents.specs.Confirm.{confirm_outcome}
use Rattle.ph_intents.specs.Create.{create_outcome, create_confirmed_outcome}
use Rattle.ph_intents.specs.Update.{update_outcome}
use Rattle.ph_refunds.specs.Refunds.{refund_outcome}
use Rattle.ph_transfers.specs.Create.{transfer_outcome}
use Rattle.ph_transfers.specs.RefundFee.{refund_fee_outcome}
use Rattle.ph_transfers.specs.Reverse.{reverse_outcome}
use Rattle.ph_disputes.specs.Answers.{evidence_outcome}
use Rattle.ph_disputes.specs.Closing.{close_outcome}
use Rattle.ph_disputes.specs.Due.{open_due_of}

-- a retrieve: it shows the version found, and adds nothing
abbrev pub found_outcome : Option Row → BatchState → Outcome
found_outcome None batch = Refuses (error_of (NoSuchObject (codes "id")))
found_outcome (Some row) batch = Adds Untouched row.object batch

-- the payment of an account whose printed id a text is, where charges are wanted: they are card charges and payments
abbrev pub payment_named : List Row → ℕ → Kind → List ℕ → Option Row
payment_named rows account wanted id =
    if kind_number wanted == kind_number kind.Charge then owned_named rows account kind.Payment id else None

-- the retrieve by an account of the object of a kind that the path names
abbrev pub retrieved : List Row → ℕ → Kind → List ℕ → BatchState → Outcome
retrieved rows account wanted id batch =
    found_outcome (option_or (owned_named rows account wanted id) (payment_named rows account wanted id)) batch

-- a create by an account, which may be confirmed at once
abbrev pub created : List Row → ℕ → CreateIntent → BatchState → Outcome
created rows account call batch =
    if call.confirm then create_confirmed_outcome rows account call batch else create_outcome rows account call batch

-- an authentication by an account that came to this
abbrev pub authenticated : List Row → ℕ → Authenticate → BatchState → Authentication → Outcome
authenticated rows account call batch Succeeded = authenticate_outcome rows account call batch
authenticated rows account call batch Failed = fail_authentication_outcome rows account call batch

-- an outcome, and the dispute of what it captures, where one is due
abbrev pub and_opened : List Row → Outcome → Outcome
and_opened rows (Refuses error) = Refuses error
and_opened rows (Adds touch object batch) = Adds touch object (open_due_of rows object batch)

-- what a request comes to: it is rejected, since it is no call that may be carried out; or its call has an outcome over the rows,
-- shows a document, or sets the clock to a moment; or a reply that was saved is given once more
pub data Upshot : Type 0 where
  Rejects : ApiError → Upshot
  Replays : Saved → Upshot
  Makes : Outcome → Upshot
  Shows : Doc → Upshot
  Sets : ℕ → Upshot

-- the setting of the clock at a time: it never goes back
abbrev pub clock_set : ℕ → ℕ → Upshot
clock_set now moment = if nat_lt moment now then Makes (Refuses (error_of ClockBackwards)) else Sets moment

-- what a call of an account comes to when it is carried out at a time
abbrev pub carried : List Row → ℕ → ℕ → Call → BatchState → Upshot
carried rows account now (call.CreateIntent c) batch = Makes (created rows account c batch)
carried rows account now (call.UpdateIntent c) batch = Makes (update_outcome rows account c batch)
carried rows account now (call.ConfirmIntent c) batch = Makes (confirm_outcome rows account c batch)
carried rows account now (call.CaptureIntent c) batch = Makes (and_opened rows (capture_outcome rows account c batch))
carried rows account now (call.CancelIntent c) batch = Makes (cancel_outcome rows account c batch)
carried rows account now (call.CreateRefund c) batch = Makes (refund_outcome rows account c batch)
carried rows account now (call.CreateTransfer c) batch = Makes (transfer_outcome now rows account c batch)
carried rows account now (call.ReverseTransfer c) batch = Makes (reverse_outcome rows account c batch)
carried rows account now (call.RefundFee c) batch = Makes (refund_fee_outcome rows account c batch)
carried rows account now (call.SendEvidence c) batch = Makes (evidence_outcome rows account c batch)
carried rows account now (call.CloseDispute c) batch = Makes (close_outcome rows account c batch)
carried rows account now (call.CreateAccount c) batch = Makes (accounts.create_outcome rows account c batch)
carried rows account now (call.GetBalance c) batch = Shows (balance_doc account now rows)
carried rows account now (call.Retrieve c) batch = Makes (retrieved rows account c.kind c.id batch)
carried rows account now (call.SetClock c) batch = clock_set now c.now
carried rows account now (call.Authenticate c) batch = Makes (authenticated rows account c batch c.outcome)

-- what the keys of the calls before a request say of it: what it finds under its key, the reply of an entry, and the key of the call that began an attempt
pub record Keys : Type 0 where
  pub found : Asked → Found
  pub reply : ℕ → Saved
  pub key : ℕ → Option (List ℕ)

-- a version of an attempt by which it is live again, where a row is one of an attempt
abbrev pub resumed_by : Row → BatchState → Option Attempt → Outcome
resumed_by row batch None = Adds Untouched 0 batch
resumed_by row batch (Some attempt) =
    Adds (Resumes attempt.intent attempt.order) row.object
    (with_row batch row.object row.account (item.Attempt (record attempt { state = state.Live })))

-- the same, where there is a row
abbrev pub resumed_from : BatchState → Option Row → Outcome
resumed_from batch None = Adds Untouched 0 batch
resumed_from batch (Some row) = resumed_by row batch (attempt_in row.item)

-- the attempt of a reference is taken up again
abbrev pub resumed_outcome : List Row → ℕ → BatchState → Outcome
resumed_outcome rows reference batch = resumed_from batch (latest_of reference rows)

-- what a call with a key comes to by what it finds: where it finds no record, what it comes to by itself; where its attempt is parked, that is taken up again under the same reference; where a reply is saved, that
abbrev pub by_found : Keys → List Row → BatchState → Upshot → Found → Upshot
by_found keys rows batch own found.Fresh = own
by_found keys rows batch own found.Differs = Rejects (error_of KeyDiffers)
by_found keys rows batch own found.Live = Rejects (error_of KeyInUse)
by_found keys rows batch own (found.Parked reference) = Makes (resumed_outcome rows reference batch)
by_found keys rows batch own (found.Saved place) = Replays (keys.reply place)

-- what a call comes to that asks this under a key, or has none
abbrev pub keyed_upshot : Keys → List Row → BatchState → Upshot → Option Asked → Upshot
keyed_upshot keys rows batch own None = own
keyed_upshot keys rows batch own (Some asked) = by_found keys rows batch own (keys.found asked)

-- what a request comes to of which the steps before its own make this
abbrev pub request_upshot : Keys → List Row → ℕ → BatchState → Judged → Upshot
request_upshot keys rows now batch (Refused error) = Rejects error
request_upshot keys rows now batch (Accepted account call asked) = keyed_upshot keys rows batch (carried rows account now call batch) asked

-- what a request comes to, over these rows at this time, as the entry of a place, where this is the key of the setup
unfoldable pub called_at : Keys → List ℕ → List Row → ℕ → ℕ → Raw → Upshot
called_at keys key rows now place raw = request_upshot keys rows now (empty_batch (length rows) now place) (request_of key rows raw)

-- nothing was found under a key
abbrev pub is_fresh : Found → Bool
is_fresh found.Fresh = true
is_fresh found.Differs = false
is_fresh found.Live = false
is_fresh (found.Parked reference) = false
is_fresh (found.Saved place) = false

-- a call opens a record: it asks this under a key under which nothing is found
abbrev pub opens : Keys → Option Asked → Bool
opens keys None = false
opens keys (Some asked) = is_fresh (keys.found asked)

-- the key that a request has whose call may be carried out
abbrev pub key_asked : Option Asked → Option (List ℕ)
key_asked None = None
key_asked (Some asked) = Some asked.key
