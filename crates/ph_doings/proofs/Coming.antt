-- What may come after the past, by rows that show it.
use Rattle.std.specs.Prelude.{option_and_then}
use Rattle.std.proofs.Common.{◌≡◌, ℕ, List, Option, Some, None, refl, sym, ap, ◌∙◌}
use Rattle.ph_items.specs.declared.intents.IntentStatus.{IntentStatus}
use Rattle.ph_items.specs.declared.items.Item.{Item}
use Rattle.ph_items.specs.declared.items.Item.TheVariants as item
use Rattle.ph_rows.specs.Rows.{latest_of}
use Rattle.ph_rows.specs.Views.{ViewState}
use Rattle.ph_rows.specs.declared.rows.Row.{Row}
use Rattle.ph_facts.specs.Order.{IsInOrder}
use Rattle.ph_facts.specs.Shown.{shown_in, status_by, status_in}
use Rattle.ph_facts.specs.Statuses.{may_begin, may_put}
use Rattle.ph_facts.specs.Touches.{Untouched, Puts, Edits, Begins, Resumes, Parks, Settles}
use Rattle.ph_facts.proofs.DoneLemmas.{status_found}
use Rattle.ph_doings.specs.Doings.{Doing}
use Rattle.ph_doings.specs.Rows.{LiveRunsMayEnd, RowsLetCome, SayPast, shown_of}
use Rattle.ph_doings.specs.Standings.{Live}
use Rattle.ph_doings.specs.Statuses.{status_of}
use Rattle.ph_doings.proofs.LawProofs.{live_is_run}
use Rattle.ph_doings.proofs.RowLemmas.{past_is_in_rows, rows_say_past}

-- the status of a payment intent by its present version is that of the past
pub status_same : (past : List Doing) (state : ViewState) (object : ℕ) → IsInOrder state → shown_in state.rows ≡ shown_of past
    → status_in state.rows object ≡ status_of past object
status_same past state object order shown = at (status_of past object) refl
  where
    says : SayPast past state.rows
    says = rows_say_past past state.rows shown

    -- of an item that the past puts into no status
    other : (row : Row) (content : Item) → latest_of object state.rows ≡ Some row → row.item ≡ content → status_of past object ≡ None
        → status_in state.rows object ≡ None
    other row (item.Intent intent) latest is none =
        absurd (let no_place : None ≡ Some intent.status = sym none ∙ says.intent object row intent latest is in cc)
    other row (item.Account x) latest is none = ap (option_and_then status_by) latest ∙ rw is refl
    other row (item.Attempt x) latest is none = ap (option_and_then status_by) latest ∙ rw is refl
    other row (item.Charge x) latest is none = ap (option_and_then status_by) latest ∙ rw is refl
    other row (item.Refund x) latest is none = ap (option_and_then status_by) latest ∙ rw is refl
    other row (item.Dispute x) latest is none = ap (option_and_then status_by) latest ∙ rw is refl
    other row (item.Transfer transfer) latest is none = ap (option_and_then status_by) latest ∙ rw is refl
    other row (item.Reversal reversal) latest is none = ap (option_and_then status_by) latest ∙ rw is refl
    other row (item.Fee fee) latest is none = ap (option_and_then status_by) latest ∙ rw is refl
    other row (item.FeeRefund fee_refund) latest is none = ap (option_and_then status_by) latest ∙ rw is refl
    other row (item.Txn x) latest is none = ap (option_and_then status_by) latest ∙ rw is refl
    other row (item.Event x) latest is none = ap (option_and_then status_by) latest ∙ rw is refl

    found : (version : Option Row) → latest_of object state.rows ≡ version → status_of past object ≡ None
        → status_in state.rows object ≡ None
    found None latest none = ap (option_and_then status_by) latest
    found (Some row) latest none = other row row.item latest refl none

    at : (old : Option IntentStatus) → status_of past object ≡ old → status_in state.rows object ≡ old
    at None is = found (latest_of object state.rows) refl is
    at (Some put) is =
        let there = (past_is_in_rows past state order shown).intent object put is in
        status_found state.rows object there.row there.intent there.latest there.item_is ∙ ap Some there.status_is

pub rows_let_come : RowsLetCome
rows_let_come past state caller Untouched order shown may = tt
rows_let_come past state caller (Puts intent put) order shown may =
    ap (λ old. may_put old put) (sym (status_same past state intent order shown)) ∙ may
rows_let_come past state caller (Edits intent put) order shown may = sym (status_same past state intent order shown) ∙ may
rows_let_come past state caller (Begins cause intent asked) order shown may = (
  refl,
  ((rows_say_past past state.rows shown).none asked.reference may.0).1,
  ap (may_begin cause) (sym (status_same past state intent order shown)) ∙ may.1,
)
rows_let_come past state caller (Resumes intent asked) order shown may = absurd may
rows_let_come past state caller (Parks intent asked) order shown may = absurd may
rows_let_come past state caller (Settles intent asked capture how) order shown may = absurd may

pub live_runs_may_end : LiveRunsMayEnd
live_runs_may_end past state flight lawful order shown live =
    let finds = (live_is_run past lawful).finds flight.run flight live in
    let there = past_is_in_rows past state order shown in record {
      intent = finds.intent;
      attempt = there.attempt flight.order.reference finds.intent flight.order Live finds.standing;
      processing = there.intent finds.intent _ finds.processing;
      parks = (live, finds.standing);
      settles = λ capture how. (live, finds.standing);
    }
