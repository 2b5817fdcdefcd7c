-- What a call adds may be entered: a version of a payment intent, told or with an attempt.
use Rattle.std.specs.Prelude.{option_and_then}
use Rattle.std.proofs.Common.{◌≡◌, ℕ, ◌+◌, ◌≤◌, true, false, eqb, List, [], ◌∷◌, ◌++◌, None, Some, length, refl, sym, ap, ◌∙◌, arith}
use Rattle.std.specs.List.{list_any}
use Rattle.std.proofs.lemmas.Bool.{cond-false, ne_eqb}
use Rattle.std.proofs.lemmas.List.{append_assoc}
use Rattle.std.proofs.lemmas.List.Sums.{fold_push}
use Rattle.ph_base.specs.declared.acquirer.Method.{Method}
use Rattle.ph_base.specs.declared.ids.Kind.TheVariants as kind
use Rattle.ph_rows.specs.declared.rows.Row.{Row}
use Rattle.ph_rows.specs.declared.batches.Announced.{Announced}
use Rattle.ph_items.specs.declared.event_kinds.EventKind.{EventKind}
use Rattle.ph_items.specs.declared.event_kinds.EventKind.TheVariants as event
use Rattle.ph_items.specs.declared.intents.Intent.{Intent}
use Rattle.ph_items.specs.declared.intents.IntentStatus.{IntentStatus}
use Rattle.ph_items.specs.declared.intents.IntentStatus.TheVariants as status
use Rattle.ph_items.specs.declared.items.Item.{Item}
use Rattle.ph_items.specs.declared.items.Item.TheVariants as item
use Rattle.ph_rows.specs.Batches.{BatchState, last_place, next_row, with_row}
use Rattle.ph_facts.specs.Entering.{MayBeEntered}
use Rattle.ph_items.specs.Kinds.{kind_of}
use Rattle.ph_rows.specs.Rows.{later_version, latest_of}
use Rattle.ph_facts.specs.Origins.{HasOrigins, charge_named}
use Rattle.ph_facts.specs.Sound.{IsSound, KeepLaws}
use Rattle.ph_facts.specs.Held.{AreHeld, IsHeldAt, IsHeldBy, charge_of}
use Rattle.ph_rows.specs.Views.{ViewState}
use Rattle.ph_items.specs.Weights.{texts_of}
use Rattle.ph_items.specs.Words.{subject_of}
use Rattle.ph_rows.proofs.RowLemmas.{latest_of-last}
use Rattle.ph_facts.proofs.HeldLemmas.{AllLeave, held_known, held_of_others}
use Rattle.ph_facts.proofs.DoneLemmas.{status_none}
use Rattle.ph_facts.proofs.OrderLemmas.{latest_of-later, order_with_all}
use Rattle.ph_facts.specs.Shown.{Shown, ShowsIntent, ShowsAttempt, status_in}
use Rattle.ph_facts.specs.Statuses.{may_begin, may_put}
use Rattle.ph_facts.specs.Touches.{Cause, Confirms}
use Rattle.ph_facts.proofs.LawLemmas.{is_of_amounts, laws_held}
use Rattle.ph_facts.proofs.OriginLemmas.{has_begun_origin}
use Rattle.ph_facts.proofs.UnderwayLemmas.{IsUnderway, underway_first, underway_told}
use Rattle.ph_intents.specs.Attempts.{attempted, new_attempt, with_attempt}
use Rattle.ph_intents.specs.Create.{created_with}
use Rattle.ph_intents.specs.Keeps.{AreUtf8, IsReady, KeepsRows, batch_after}
use Rattle.ph_intents.specs.Versions.{adds_told, with_told, with_version}
use Rattle.ph_intents.proofs.HoldLemmas.{Each, hold_stays}

-- the empty batch of an entry is under way
pub begins : (state : ViewState) (entry : ℕ) → IsUnderway state (batch_after state entry)
begins state entry = record { continues = record { began = refl; at = refl; follow = tt }; told = tt }

-- ---- the present version of an object behind a batch

-- it is the last row, where that is one of it
pub last_version : (rows : List Row) (batch : BatchState) (object account : ℕ) (content : Item)
    → latest_of object (rows ++ (with_row batch object account content).rows) ≡ Some (next_row batch object account content)
last_version rows batch object account content =
    let new = next_row batch object account content in
    ap (latest_of object) (sym (append_assoc rows batch.rows (new ∷ []))) ∙ latest_of-last (rows ++ batch.rows) new

-- and as before, where the last row is one of another object
pub other_version : (rows : List Row) (batch : BatchState) (object other account : ℕ) (content : Item) → (other ≡ object → ⊥)
    → latest_of object (rows ++ (with_row batch other account content).rows) ≡ latest_of object (rows ++ batch.rows)
other_version rows batch object other account content differs =
    let new = next_row batch other account content in
    ap (latest_of object) (sym (append_assoc rows batch.rows (new ∷ [])))
    ∙ fold_push (later_version object) None (rows ++ batch.rows) new
    ∙ cond-false (eqb other object) (Some new) (latest_of object (rows ++ batch.rows)) (ne_eqb other object differs)

-- ---- batches of one payment intent

-- a batch that is under way may be entered, where the rows keep the laws on amounts with it, and it leaves what is held for
-- every payment intent but one that is held
pub enters : (state : ViewState) (batch : BatchState) (object : ℕ) → IsSound state → IsUnderway state batch
    → (AreHeld (state.rows ++ batch.rows) → KeepLaws (state.rows ++ batch.rows))
    → ((other : ℕ) → (other ≡ object → ⊥) → AllLeave state.rows other batch.rows) → IsHeldAt object (state.rows ++ batch.rows)
    → MayBeEntered state batch
enters state batch object sound underway keeps leave held =
    let continues = underway.continues in
    record {
      began = continues.began;
      at = continues.at;
      follow = continues.follow;
      laws = keeps (held_of_others state batch.rows object sound.order (order_with_all state batch.rows sound.order continues.follow) sound.laws.held held leave);
      told = underway.told;
    }

-- what a payment intent waits to capture is held by its latest charge in the view
abbrev pub Waits : ViewState → ℕ → Intent → Type 0
Waits state object intent =
    intent.status ≡ status.RequiresCapture → IsHeldBy object intent (option_and_then (charge_of state.rows) intent.latest_charge)

-- a batch with versions of a payment intent and attempts
plain_enters : (state : ViewState) (batch : BatchState) (object : ℕ) (row : Row) (intent : Intent) → IsSound state
    → IsUnderway state batch → latest_of object (state.rows ++ batch.rows) ≡ Some row → row.item ≡ item.Intent intent
    → list_any is_of_amounts batch.rows ≡ false
    → ((other : ℕ) → (other ≡ object → ⊥) → AllLeave state.rows other batch.rows)
    → Each (λ row. kind_of row.item ≡ kind.Charge → ⊥) batch.rows → Waits state object intent → MayBeEntered state batch
plain_enters state batch object row intent sound underway latest is none leave no_charge waits =
    enters state batch object sound underway (laws_held state.rows batch.rows none sound.laws) leave
    (held_known object (state.rows ++ batch.rows) row intent latest is
    (λ here. hold_stays state batch.rows object intent sound.order underway.continues.follow no_charge (waits here)))

-- a version of a payment intent
abbrev pub version_row : ViewState → ℕ → ℕ → ℕ → Intent → Row
version_row state entry account object intent = next_row (batch_after state entry) object account (item.Intent intent)

-- by itself
pub version_enters : (state : ViewState) (entry account object : ℕ) (intent : Intent) → IsReady state
    → IsUnderway state (with_version account object intent (batch_after state entry)) → Waits state object intent
    → MayBeEntered state (with_version account object intent (batch_after state entry))
version_enters state entry account object intent ready underway waits =
    plain_enters state (with_version account object intent (batch_after state entry)) object
    (version_row state entry account object intent) intent ready.sound underway
    (last_version state.rows (batch_after state entry) object account (item.Intent intent)) refl refl
    (λ other differs. (λ same. differs (sym same), tt)) (λ is. absurd (cc), tt) waits

-- and an event that tells of it
pub told_enters : (state : ViewState) (entry account object : ℕ) (intent : Intent) (sort : EventKind) → IsReady state
    → IsUnderway state (with_version account object intent (batch_after state entry)) → kind.Intent ≡ subject_of sort
    → Waits state object intent → may_put (status_in state.rows object) intent.status ≡ true
    → KeepsRows state 2 (adds_told account object intent sort (batch_after state entry))
told_enters state entry account object intent sort ready underway subject waits may = (
  record {
    enters = plain_enters state (with_told account object intent sort (batch_after state entry)) object
        (version_row state entry account object intent) intent ready.sound
        (underway_told state (batch_after state entry) object account (item.Intent intent) sort underway subject)
        (last_version state.rows (batch_after state entry) object account (item.Intent intent)) refl refl
        (λ other differs. (λ same. differs (sym same), tt)) (λ is. absurd (cc), tt) waits;
    few = omega arith;
    shown = refl;
  },
  may,
)

-- a version of a payment intent in the batch of an entry, of which this was announced
abbrev with_told_version : ViewState → ℕ → ℕ → ℕ → Intent → List Announced → BatchState
with_told_version state entry account object intent announced =
    record (with_version account object intent (batch_after state entry)) { announced = announced }

-- and an attempt behind it
attempt_enters : (state : ViewState) (entry account object : ℕ) (intent : Intent) (how : Method) (announced : List Announced)
    → IsReady state → IsUnderway state (with_told_version state entry account object intent announced)
    → object ≤ length state.rows + 1 → Waits state object intent
    → MayBeEntered state (with_attempt account object intent how (with_told_version state entry account object intent announced))
attempt_enters state entry account object intent how announced ready underway early waits =
    plain_enters state (with_attempt account object intent how before) object
    (version_row state entry account object intent) intent ready.sound
    (underway_first state before account begun ready.sound.order underway (let room = ready.room in omega arith)
    (record { texts = refl; within = tt; origins = (has_begun_origin _ version underway.continues.follow.0.begun, tt); silent = λ event is. absurd (cc) }))
    (other_version state.rows before object (last_place before + 1) account begun (λ same. omega arith)
    ∙ last_version state.rows (batch_after state entry) object account (item.Intent intent)) refl refl
    (λ other differs. (λ same. differs (sym same), (tt, tt))) (λ is. absurd (cc), (λ is. absurd (cc), tt)) waits
  where
    before : BatchState
    before = with_told_version state entry account object intent announced

    version : Row
    version = version_row state entry account object intent

    begun : Item
    begun = item.Attempt (new_attempt object intent.amount intent.currency how before)

-- what the row of a new attempt shows behind one version of its payment intent
abbrev shows_begun : ViewState → ℕ → ℕ → Intent → Method → List Shown
shows_begun state entry object intent how =
    let begun = new_attempt object intent.amount intent.currency how (with_version 0 object intent (batch_after state entry)) in
    ShowsAttempt begun.order.reference object begun.order begun.state ∷ []

-- a further version of a payment intent, and an attempt
pub attempted_enters : (state : ViewState) (entry : ℕ) (cause : Cause) (account object : ℕ) (intent : Intent) (how : Method) → IsReady state
    → IsUnderway state (with_version account object intent (batch_after state entry)) → object ≤ length state.rows
    → Waits state object intent → intent.status ≡ status.Processing → may_begin cause (status_in state.rows object) ≡ true
    → KeepsRows state 2 (attempted cause account object intent how (batch_after state entry))
attempted_enters state entry cause account object intent how ready underway early waits runs may = (
  record {
    enters = attempt_enters state entry account object intent how [] ready underway (omega arith) waits;
    few = omega arith;
    shown = ap (λ (s : IntentStatus). ShowsIntent object s ∷ shows_begun state entry object intent how) runs;
  },
  (latest_of-later state (last_place (with_version account object intent (batch_after state entry)) + 1) ready.sound.order (omega arith), may),
)

-- the first version of a payment intent
pub created_underway : (state : ViewState) (entry account : ℕ) (intent : Intent) → IsReady state
    → AreUtf8 (texts_of (item.Intent intent)) → HasOrigins (state.rows ++ []) (charge_named intent.latest_charge)
    → IsUnderway state (with_version account (last_place (batch_after state entry) + 1) intent (batch_after state entry))
created_underway state entry account intent ready texts named =
    underway_first state (batch_after state entry) account (item.Intent intent) ready.sound.order (begins state entry)
    (let room = ready.room in omega arith) (record { texts = texts; within = tt; origins = named; silent = λ event is. absurd (cc) })

-- which has no status before
pub new_number : (state : ViewState) (entry : ℕ) → IsReady state → status_in state.rows (last_place (batch_after state entry) + 1) ≡ None
new_number state entry ready =
    status_none state.rows (last_place (batch_after state entry) + 1)
    (latest_of-later state (last_place (batch_after state entry) + 1) ready.sound.order (omega arith))

-- a new payment intent, its attempt, and the event that tells of it
pub created_enters : (state : ViewState) (entry account : ℕ) (intent : Intent) (how : Method) → IsReady state
    → AreUtf8 (texts_of (item.Intent intent)) → HasOrigins (state.rows ++ []) (charge_named intent.latest_charge)
    → Waits state (last_place (batch_after state entry) + 1) intent → intent.status ≡ status.Processing
    → KeepsRows state 3 (created_with account intent how (batch_after state entry))
created_enters state entry account intent how ready texts named waits runs =
    let batch = batch_after state entry in
    let object = last_place batch + 1 in (
      record {
        enters = attempt_enters state entry account object intent how (record { sort = event.IntentCreated; object = object } ∷ []) ready
            (underway_told state batch object account (item.Intent intent) event.IntentCreated
            (created_underway state entry account intent ready texts named) refl)
            (omega arith) waits;
        few = omega arith;
        shown = ap (λ (s : IntentStatus). ShowsIntent object s ∷ shows_begun state entry object intent how) runs;
      },
      (latest_of-later state (last_place (with_version account object intent batch) + 1) ready.sound.order (omega arith), ap (may_begin Confirms) (new_number state entry ready)),
    )
