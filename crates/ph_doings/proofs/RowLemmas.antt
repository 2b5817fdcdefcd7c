-- Rows that show the past say it.
use Rattle.std.proofs.Common.{◌≡◌, ℕ, suc, ◌+◌, ◌-◌, ◌==◌, if◌then◌else◌, ◌⊎◌, inl, inr, Bool, true, false, List, [], ◌∷◌, Option, Some, None, refl, sym, ap, subst, slice_get, ◌∙◌, arith}
use Rattle.std.specs.List.{cons_option, fold}
use Rattle.std.proofs.lemmas.Bool.Decides.{nat_tests}
use Rattle.std.proofs.lemmas.List.Sums.{fold-append}
use Rattle.ph_base.specs.declared.ids.Kind.{Kind}
use Rattle.ph_base.specs.declared.ids.Kind.TheVariants as kind
use Rattle.ph_items.specs.Kinds.{kind_of}
use Rattle.ph_facts.specs.Order.{IsInOrder}
use Rattle.ph_rows.specs.Views.{ViewState}
use Rattle.ph_facts.proofs.OrderLemmas.{latest_of_order, versions_alike}
use Rattle.ph_rows.proofs.RowLemmas.{is_row_at}
use Rattle.ph_rows.specs.Rows.{later_version, latest_of, row_at}
use Rattle.ph_items.specs.Charges.{charge_kind}
use Rattle.ph_items.specs.declared.charges.ChargeSort.{ChargeSort}
use Rattle.ph_items.specs.declared.charges.ChargeSort.TheVariants as sort
use Rattle.ph_items.specs.declared.attempts.Attempt.{Attempt}
use Rattle.ph_items.specs.declared.attempts.AttemptState.{AttemptState}
use Rattle.ph_items.specs.declared.intents.Intent.{Intent}
use Rattle.ph_items.specs.declared.intents.IntentStatus.{IntentStatus}
use Rattle.ph_items.specs.declared.items.Item.{Item}
use Rattle.ph_items.specs.declared.items.Item.TheVariants as item
use Rattle.ph_items.specs.declared.orders.Order.{Order}
use Rattle.ph_rows.specs.declared.rows.Row.{Row}
use Rattle.ph_doings.specs.Doings.{Doing, Leaves, Puts, Edits, Begins, Resumes, Parks, Settles, touch_of}
use Rattle.ph_facts.specs.Shown.{HasAttempt, HasIntent, Shown, ShowsIntent, ShowsAttempt, shown_by, shown_in, shows}
use Rattle.ph_doings.specs.Rows.{PastIsInRows, RowsSayPast, StandsAs, shown_of, state_shown}
use Rattle.ph_doings.specs.Standings.{State, Standing, NotBegun, Stands, standing_after, standing_of}
use Rattle.ph_doings.specs.Statuses.{status_after, status_of}

-- ---- what was shown last

-- the status of a payment intent that was shown last
abbrev later_status : ℕ → Option IntentStatus → Shown → Option IntentStatus
later_status intent old (ShowsIntent object status) = if object == intent then Some status else old
later_status intent old (ShowsAttempt object of order state) = old

-- what was shown of an attempt
data Version : Type 0 where
  NoVersion : Version
  HasVersion : (intent : ℕ) → Order → AttemptState → Version

abbrev later_attempt : ℕ → Version → Shown → Version
later_attempt reference old (ShowsIntent object status) = old
later_attempt reference old (ShowsAttempt object intent order state) = if object == reference then HasVersion intent order state else old

-- what a row shows of where an attempt stands
abbrev version_of : Standing → Version
version_of NotBegun = NoVersion
version_of (Stands intent order state) = HasVersion intent order (state_shown state)

-- ---- what the past shows

status_step : (doing : Doing) (intent : ℕ) (old : Option IntentStatus) → fold (later_status intent) old (shows (touch_of doing)) ≡ status_after doing intent old
status_step Leaves intent old = refl
status_step (Puts of put) intent old = grind (arith, nat_tests)
status_step (Edits of put) intent old = grind (arith, nat_tests)
status_step (Begins cause of flight) intent old = grind (arith, nat_tests)
status_step (Resumes of flight) intent old = refl
status_step (Parks of flight) intent old = refl
status_step (Settles of flight capture ruling) intent old = grind (arith, nat_tests)

status_shown : (past : List Doing) (intent : ℕ) → fold (later_status intent) None (shown_of past) ≡ status_of past intent
status_shown [] intent = refl
status_shown (doing ∷ past) intent = fold-append (later_status intent) None (shown_of past) (shows (touch_of doing))
    ∙ ap (λ old. fold (later_status intent) old (shows (touch_of doing))) (status_shown past intent) ∙ status_step doing intent (status_of past intent)

version_step : (doing : Doing) (reference : ℕ) (old : Standing)
    → fold (later_attempt reference) (version_of old) (shows (touch_of doing)) ≡ version_of (standing_after doing reference old)
version_step Leaves reference old = refl
version_step (Puts intent put) reference old = refl
version_step (Edits intent put) reference old = refl
version_step (Begins cause intent flight) reference old = grind (arith, nat_tests)
version_step (Resumes intent flight) reference old = grind (arith, nat_tests)
version_step (Parks intent flight) reference old = grind (arith, nat_tests)
version_step (Settles intent flight capture ruling) reference old = grind (arith, nat_tests)

version_shown : (past : List Doing) (reference : ℕ) → fold (later_attempt reference) NoVersion (shown_of past) ≡ version_of (standing_of past reference)
version_shown [] reference = refl
version_shown (doing ∷ past) reference = fold-append (later_attempt reference) NoVersion (shown_of past) (shows (touch_of doing))
    ∙ ap (λ old. fold (later_attempt reference) old (shows (touch_of doing))) (version_shown past reference) ∙ version_step doing reference (standing_of past reference)

-- ---- what rows show

-- a row after those before it
abbrev later_row : {S : Type 0} → (S → Shown → S) → S → Option Shown → S
later_row step old None = old
later_row step old (Some shown) = step old shown

first_row : {S : Type 0} (step : S → Shown → S) (old : S) (row : Row) (rows : List Row)
    → fold step old (shown_in (row ∷ rows)) ≡ fold step (later_row step old (shown_by row.object row.item)) (shown_in rows)
first_row step old row rows = at (shown_by row.object row.item)
  where
    at : (shown : Option Shown) → fold step old (cons_option shown (shown_in rows)) ≡ fold step (later_row step old shown) (shown_in rows)
    at None = refl
    at (Some shown) = refl

-- the status found so far is that of the version found so far
abbrev IsStatusOf : Option Row → Option IntentStatus → Type 0
IsStatusOf found old = (row : Row) (intent : Intent) → found ≡ Some row → row.item ≡ item.Intent intent → old ≡ Some intent.status

status_apart : (object number : ℕ) (old : Option IntentStatus) (content : Item) → (object == number) ≡ false
    → later_row (later_status number) old (shown_by object content) ≡ old
status_apart object number old (item.Account x) apart = refl
status_apart object number old (item.Intent x) apart = rw apart refl
status_apart object number old (item.Attempt x) apart = refl
status_apart object number old (item.Charge x) apart = refl
status_apart object number old (item.Refund x) apart = refl
status_apart object number old (item.Dispute x) apart = refl
status_apart object number old (item.Transfer transfer) apart = refl
status_apart object number old (item.Reversal reversal) apart = refl
status_apart object number old (item.Fee fee) apart = refl
status_apart object number old (item.FeeRefund fee_refund) apart = refl
status_apart object number old (item.Txn x) apart = refl
status_apart object number old (item.Event x) apart = refl

status_row : (number : ℕ) (found : Option Row) (old : Option IntentStatus) (row : Row) → IsStatusOf found old
    → IsStatusOf (later_version number found row) (later_row (later_status number) old (shown_by row.object row.item))
status_row number found old row holds = at (row.object == number) refl
  where
    at : (test : Bool) → (row.object == number) ≡ test
        → IsStatusOf (later_version number found row) (later_row (later_status number) old (shown_by row.object row.item))
    at true e last intent h is =
        let one : Some row ≡ Some last = rw e at h in
        let same : row ≡ last = cc in
        let content : row.item ≡ item.Intent intent = ap (λ (r : Row). r.item) same ∙ is in
        rw (content, e) refl
    at false e last intent h is = status_apart row.object number old row.item e ∙ holds last intent (rw e at h) is

status_rows : (number : ℕ) (found : Option Row) (old : Option IntentStatus) (rows : List Row) → IsStatusOf found old
    → IsStatusOf (fold (later_version number) found rows) (fold (later_status number) old (shown_in rows))
status_rows number found old [] holds = holds
status_rows number found old (row ∷ rows) holds =
    let next = status_rows number (later_version number found row) (later_row (later_status number) old (shown_by row.object row.item)) rows
    (status_row number found old row holds) in
    λ last intent h is. first_row (later_status number) old row rows ∙ next last intent h is

-- the version found so far is what was shown so far
abbrev IsVersionOf : Option Row → Version → Type 0
IsVersionOf found old = (row : Row) (attempt : Attempt) → found ≡ Some row → row.item ≡ item.Attempt attempt
    → old ≡ HasVersion attempt.intent attempt.order attempt.state

version_apart : (object number : ℕ) (old : Version) (content : Item) → (object == number) ≡ false
    → later_row (later_attempt number) old (shown_by object content) ≡ old
version_apart object number old (item.Account x) apart = refl
version_apart object number old (item.Intent x) apart = refl
version_apart object number old (item.Attempt x) apart = rw apart refl
version_apart object number old (item.Charge x) apart = refl
version_apart object number old (item.Refund x) apart = refl
version_apart object number old (item.Dispute x) apart = refl
version_apart object number old (item.Transfer transfer) apart = refl
version_apart object number old (item.Reversal reversal) apart = refl
version_apart object number old (item.Fee fee) apart = refl
version_apart object number old (item.FeeRefund fee_refund) apart = refl
version_apart object number old (item.Txn x) apart = refl
version_apart object number old (item.Event x) apart = refl

version_row : (number : ℕ) (found : Option Row) (old : Version) (row : Row) → IsVersionOf found old
    → IsVersionOf (later_version number found row) (later_row (later_attempt number) old (shown_by row.object row.item))
version_row number found old row holds = at (row.object == number) refl
  where
    at : (test : Bool) → (row.object == number) ≡ test
        → IsVersionOf (later_version number found row) (later_row (later_attempt number) old (shown_by row.object row.item))
    at true e last attempt h is =
        let one : Some row ≡ Some last = rw e at h in
        let same : row ≡ last = cc in
        let content : row.item ≡ item.Attempt attempt = ap (λ (r : Row). r.item) same ∙ is in
        rw (content, e) refl
    at false e last attempt h is = version_apart row.object number old row.item e ∙ holds last attempt (rw e at h) is

version_rows : (number : ℕ) (found : Option Row) (old : Version) (rows : List Row) → IsVersionOf found old
    → IsVersionOf (fold (later_version number) found rows) (fold (later_attempt number) old (shown_in rows))
version_rows number found old [] holds = holds
version_rows number found old (row ∷ rows) holds =
    let next = version_rows number (later_version number found row) (later_row (later_attempt number) old (shown_by row.object row.item)) rows
    (version_row number found old row holds) in
    λ last attempt h is. first_row (later_attempt number) old row rows ∙ next last attempt h is

-- where no version was found so far, nothing was shown
abbrev IsNothing : {S : Type 0} → S → Option Row → S → Type 0
IsNothing start found old = found ≡ None → old ≡ start

none_found : (number : ℕ) (found : Option Row) (rows : List Row) → fold (later_version number) found rows ≡ None → found ≡ None
none_found number found [] h = h
none_found number found (row ∷ rows) h = at (row.object == number) refl (none_found number (later_version number found row) rows h)
  where
    at : (test : Bool) → (row.object == number) ≡ test → later_version number found row ≡ None → found ≡ None
    at true e none = let no_place : Some row ≡ None = rw e at none in absurd (cc)
    at false e none = rw e at none

nothing_rows : {S : Type 0} (number : ℕ) (step : S → Shown → S) (start : S)
    → ((object : ℕ) (old : S) (content : Item) → (object == number) ≡ false → later_row step old (shown_by object content) ≡ old)
    → (rows : List Row) → fold (later_version number) None rows ≡ None → fold step start (shown_in rows) ≡ start
nothing_rows number step start apart [] h = refl
nothing_rows number step start apart (row ∷ rows) h = first_row step start row rows ∙ at (row.object == number) refl (nothing_rows number step start apart rows)
  where
    at : (test : Bool) → (row.object == number) ≡ test
        → (fold (later_version number) None rows ≡ None → fold step start (shown_in rows) ≡ start)
        → fold step (later_row step start (shown_by row.object row.item)) (shown_in rows) ≡ start
    at true e more =
        let first : later_version number None row ≡ Some row = rw e refl in
        let none : later_version number None row ≡ None = none_found number (later_version number None row) rows h in
        let no_place : Some row ≡ None = sym first ∙ none in
        absurd (cc)
    at false e more =
        let first : later_version number None row ≡ None = rw e refl in
        ap (λ old. fold step old (shown_in rows)) (apart row.object start row.item e)
        ∙ more (ap (λ found. fold (later_version number) found rows) (sym first) ∙ h)

-- ---- what rows say of the past

stands_as : (standing : Standing) (attempt : Attempt) → version_of standing ≡ HasVersion attempt.intent attempt.order attempt.state → StandsAs standing attempt
stands_as NotBegun attempt h = absurd (cc)
stands_as (Stands intent order state) attempt h = record {
  state = state;
  standing_is = let i : intent ≡ attempt.intent = cc in let o : order ≡ attempt.order = cc in ap (λ x. Stands x order state) i ∙ ap (λ x. Stands attempt.intent x state) o;
  state_is = cc;
}

not_begun : (standing : Standing) → version_of standing ≡ NoVersion → standing ≡ NotBegun
not_begun NotBegun h = refl
not_begun (Stands intent order state) h = absurd (cc)

pub rows_say_past : RowsSayPast
rows_say_past past rows shown = record {
  intent = λ object row intent h is. sym (status_shown past object) ∙ ap (fold (later_status object) None) (sym shown)
      ∙ status_rows object None None rows (λ last v none content. absurd (cc)) row intent h is;
  attempt = λ object row attempt h is. stands_as (standing_of past object) attempt
      (sym (version_shown past object) ∙ ap (fold (later_attempt object) NoVersion) (sym shown)
      ∙ version_rows object None NoVersion rows (λ last v none content. absurd (cc)) row attempt h is);
  none = λ object h. (
    sym (status_shown past object) ∙ ap (fold (later_status object) None) (sym shown)
        ∙ nothing_rows object (later_status object) None (λ other old content. status_apart other object old content) rows h,
    not_begun (standing_of past object) (sym (version_shown past object) ∙ ap (fold (later_attempt object) NoVersion) (sym shown)
        ∙ nothing_rows object (later_attempt object) NoVersion (λ other old content. version_apart other object old content) rows h),
  );
}

-- ---- what was done has rows

-- a version of an object of a kind is among the rows
record IsAmong (rows : List Row) (object : ℕ) (wanted : Kind) : Type 0 where
  index : ℕ
  row : Row
  found : slice_get rows index ≡ Some row
  object_is : row.object ≡ object
  kind_is : kind_of row.item ≡ wanted

among_later : (first : Row) (rows : List Row) (object : ℕ) (wanted : Kind) → IsAmong rows object wanted → IsAmong (first ∷ rows) object wanted
among_later first rows object wanted there = record {
  index = suc there.index;
  row = there.row;
  found = there.found;
  object_is = there.object_is;
  kind_is = there.kind_is;
}

among_first : (first : Row) (rows : List Row) (object : ℕ) (wanted : Kind) → (first.object == object) ≡ true → kind_of first.item ≡ wanted
    → IsAmong (first ∷ rows) object wanted
among_first first rows object wanted same is = record {
  index = 0;
  row = first;
  found = refl;
  object_is = grind (arith, nat_tests);
  kind_is = is;
}

-- where a row changes what was shown of an object, it is a version of it, of the kind
abbrev Changes : {S : Type 0} → ℕ → Kind → (S → Shown → S) → Type 0
Changes {S} number wanted step = (object : ℕ) (old : S) (content : Item)
    → (later_row step old (shown_by object content) ≡ old) ⊎ (((object == number) ≡ true) × (kind_of content ≡ wanted))

status_changes : (number : ℕ) → Changes number kind.Intent (later_status number)
status_changes number object old (item.Account x) = inl refl
status_changes number object old (item.Intent x) = at (object == number) refl
  where
    at : (test : Bool) → (object == number) ≡ test
        → (later_status number old (ShowsIntent object x.status) ≡ old) ⊎ (((object == number) ≡ true) × (kind.Intent ≡ kind.Intent))
    at true e = inr (e, refl)
    at false e = inl (rw e refl)
status_changes number object old (item.Attempt x) = inl refl
status_changes number object old (item.Charge x) = inl refl
status_changes number object old (item.Refund x) = inl refl
status_changes number object old (item.Dispute x) = inl refl
status_changes number object old (item.Transfer transfer) = inl refl
status_changes number object old (item.Reversal reversal) = inl refl
status_changes number object old (item.Fee fee) = inl refl
status_changes number object old (item.FeeRefund fee_refund) = inl refl
status_changes number object old (item.Txn x) = inl refl
status_changes number object old (item.Event x) = inl refl

version_changes : (number : ℕ) → Changes number kind.Attempt (later_attempt number)
version_changes number object old (item.Account x) = inl refl
version_changes number object old (item.Intent x) = inl refl
version_changes number object old (item.Attempt x) = at (object == number) refl
  where
    at : (test : Bool) → (object == number) ≡ test
        → (later_attempt number old (ShowsAttempt object x.intent x.order x.state) ≡ old) ⊎ (((object == number) ≡ true) × (kind.Attempt ≡ kind.Attempt))
    at true e = inr (e, refl)
    at false e = inl (rw e refl)
version_changes number object old (item.Charge x) = inl refl
version_changes number object old (item.Refund x) = inl refl
version_changes number object old (item.Dispute x) = inl refl
version_changes number object old (item.Transfer transfer) = inl refl
version_changes number object old (item.Reversal reversal) = inl refl
version_changes number object old (item.Fee fee) = inl refl
version_changes number object old (item.FeeRefund fee_refund) = inl refl
version_changes number object old (item.Txn x) = inl refl
version_changes number object old (item.Event x) = inl refl

-- what rows show is what was shown before them, or a version is among them
shown_or_among : {S : Type 0} (number : ℕ) (wanted : Kind) (step : S → Shown → S) → Changes number wanted step → (rows : List Row) (old : S)
    → (fold step old (shown_in rows) ≡ old) ⊎ IsAmong rows number wanted
shown_or_among number wanted step changes [] old = inl refl
shown_or_among number wanted step changes (row ∷ rows) old =
    at (changes row.object old row.item) (shown_or_among number wanted step changes rows (later_row step old (shown_by row.object row.item)))
  where
    at : (later_row step old (shown_by row.object row.item) ≡ old) ⊎ (((row.object == number) ≡ true) × (kind_of row.item ≡ wanted))
        → (fold step (later_row step old (shown_by row.object row.item)) (shown_in rows) ≡ later_row step old (shown_by row.object row.item)) ⊎ IsAmong rows number wanted
        → (fold step old (shown_in (row ∷ rows)) ≡ old) ⊎ IsAmong (row ∷ rows) number wanted
    at (inr is) more = inr (among_first row rows number wanted is.0 is.1)
    at (inl same) (inr there) = inr (among_later row rows number wanted there)
    at (inl same) (inl more) = inl (first_row step old row rows ∙ more ∙ same)

-- a version among rows in their order is of the kind of the object's present one
alike : (state : ViewState) (number : ℕ) (wanted : Kind) (last : Row) → IsInOrder state → IsAmong state.rows number wanted
    → latest_of number state.rows ≡ Some last → kind_of last.item ≡ wanted
alike state number wanted last order there latest =
    let before : there.index ≡ (there.index + 1) - 1 = omega arith in
    let place : row_at (there.index + 1) state.rows ≡ Some there.row =
    is_row_at (there.index + 1) state.rows there.row (λ z. omega (arith, z)) (subst (λ j. slice_get state.rows j ≡ Some there.row) before there.found) in
    let stands : (row_at last.place state.rows ≡ Some last) × (last.object ≡ number) = latest_of_order state number last order latest in
    sym (versions_alike state (there.index + 1) last.place there.row last order place stands.0 (there.object_is ∙ sym stands.1)) ∙ there.kind_is

-- a charge is of neither kind
charge_kinds : (made : ChargeSort) (wanted : Kind) → (kind.Charge ≡ wanted → ⊥) → (kind.Payment ≡ wanted → ⊥) → charge_kind made ≡ wanted → ⊥
charge_kinds (sort.Card intent) wanted card payment h = card h
charge_kinds (sort.Payment transfer) wanted card payment h = payment h

intent_of_kind : (content : Item) → kind_of content ≡ kind.Intent → (intent : Intent) × (content ≡ item.Intent intent)
intent_of_kind (item.Account x) h = absurd (cc)
intent_of_kind (item.Intent x) h = (x, refl)
intent_of_kind (item.Attempt x) h = absurd (cc)
intent_of_kind (item.Charge x) h = absurd (charge_kinds x.sort kind.Intent (λ is. absurd (cc)) (λ is. absurd (cc)) h)
intent_of_kind (item.Refund x) h = absurd (cc)
intent_of_kind (item.Dispute x) h = absurd (cc)
intent_of_kind (item.Transfer transfer) h = absurd (cc)
intent_of_kind (item.Reversal reversal) h = absurd (cc)
intent_of_kind (item.Fee fee) h = absurd (cc)
intent_of_kind (item.FeeRefund fee_refund) h = absurd (cc)
intent_of_kind (item.Txn x) h = absurd (cc)
intent_of_kind (item.Event x) h = absurd (cc)

attempt_of_kind : (content : Item) → kind_of content ≡ kind.Attempt → (attempt : Attempt) × (content ≡ item.Attempt attempt)
attempt_of_kind (item.Account x) h = absurd (cc)
attempt_of_kind (item.Intent x) h = absurd (cc)
attempt_of_kind (item.Attempt x) h = (x, refl)
attempt_of_kind (item.Charge x) h = absurd (charge_kinds x.sort kind.Attempt (λ is. absurd (cc)) (λ is. absurd (cc)) h)
attempt_of_kind (item.Refund x) h = absurd (cc)
attempt_of_kind (item.Dispute x) h = absurd (cc)
attempt_of_kind (item.Transfer transfer) h = absurd (cc)
attempt_of_kind (item.Reversal reversal) h = absurd (cc)
attempt_of_kind (item.Fee fee) h = absurd (cc)
attempt_of_kind (item.FeeRefund fee_refund) h = absurd (cc)
attempt_of_kind (item.Txn x) h = absurd (cc)
attempt_of_kind (item.Event x) h = absurd (cc)

intent_among : (past : List Doing) (rows : List Row) (object : ℕ) (status : IntentStatus) → shown_in rows ≡ shown_of past
    → status_of past object ≡ Some status → IsAmong rows object kind.Intent
intent_among past rows object status shown is =
    elim (shown_or_among object kind.Intent (later_status object) (status_changes object) rows None) [
      | inl none ↦ absurd (let no_place : None ≡ Some status = sym none ∙ ap (fold (later_status object) None) shown ∙ status_shown past object ∙ is in cc)
      | inr there ↦ there
    ]

attempt_among : (past : List Doing) (rows : List Row) (object intent : ℕ) (order : Order) (state : State) → shown_in rows ≡ shown_of past
    → standing_of past object ≡ Stands intent order state → IsAmong rows object kind.Attempt
attempt_among past rows object intent order state shown is =
    elim (shown_or_among object kind.Attempt (later_attempt object) (version_changes object) rows NoVersion) [
      | inl none ↦ absurd (let no_place : NoVersion ≡ HasVersion intent order (state_shown state) =
          sym none ∙ ap (fold (later_attempt object) NoVersion) shown ∙ version_shown past object ∙ ap version_of is in cc)
      | inr there ↦ there
    ]

has_intent : (past : List Doing) (state : ViewState) (object : ℕ) (status : IntentStatus) → IsInOrder state → shown_in state.rows ≡ shown_of past
    → status_of past object ≡ Some status → (found : Option Row) → latest_of object state.rows ≡ found → HasIntent state.rows object status
has_intent past state object status order shown is None latest =
    absurd (let no_place : None ≡ Some status = sym ((rows_say_past past state.rows shown).none object latest).0 ∙ is in cc)
has_intent past state object status order shown is (Some row) latest =
    let version = intent_of_kind row.item (alike state object kind.Intent row order (intent_among past state.rows object status shown is) latest) in
    let says : status_of past object ≡ Some version.0.status = (rows_say_past past state.rows shown).intent object row version.0 latest version.1 in
    record { row = row; intent = version.0; latest = latest; item_is = version.1; status_is = let same : Some version.0.status ≡ Some status = sym says ∙ is in cc }

has_attempt : (past : List Doing) (state : ViewState) (object intent : ℕ) (order : Order) (where_ : State) → IsInOrder state
    → shown_in state.rows ≡ shown_of past → standing_of past object ≡ Stands intent order where_ → (found : Option Row)
    → latest_of object state.rows ≡ found → HasAttempt state.rows object intent order (state_shown where_)
has_attempt past state object intent order where_ sound shown is None latest =
    absurd (let no_place : NotBegun ≡ Stands intent order where_ = sym ((rows_say_past past state.rows shown).none object latest).1 ∙ is in cc)
has_attempt past state object intent order where_ sound shown is (Some row) latest =
    let version = attempt_of_kind row.item (alike state object kind.Attempt row sound (attempt_among past state.rows object intent order where_ shown is) latest) in
    let says = (rows_say_past past state.rows shown).attempt object row version.0 latest version.1 in
    let same : Stands version.0.intent version.0.order says.state ≡ Stands intent order where_ = sym says.standing_is ∙ is in
    record {
      row = row;
      attempt = version.0;
      latest = latest;
      item_is = version.1;
      intent_is = cc;
      order_is = cc;
      state_is = let one : says.state ≡ where_ = cc in sym says.state_is ∙ ap state_shown one;
    }

pub past_is_in_rows : PastIsInRows
past_is_in_rows past state order shown = record {
  intent = λ object status is. has_intent past state object status order shown is (latest_of object state.rows) refl;
  attempt = λ object intent of where_ is. has_attempt past state object intent of where_ order shown is (latest_of object state.rows) refl;
}
