-- Rows in order, as rows are added.
use Rattle.std.proofs.Common.{◌≡◌, ℕ, ◌+◌, ◌-◌, ◌^◌, ◌≤◌, ◌<◌, inl, inr, true, List, [], ◌∷◌, ◌++◌, Option, None, Some, length, sym, refl, ◌∙◌, subst, arith}
use Rattle.std.specs.Prelude.{slice_get}
use Rattle.std.specs.List.{list_all}
use Rattle.std.specs.Str.{is_utf8}
use Rattle.std.proofs.lemmas.List.{length-append, append-nil, append_assoc}
use Rattle.ph_items.specs.declared.items.Item.{Item}
use Rattle.ph_items.specs.declared.items.Item.TheVariants as item
use Rattle.ph_items.specs.declared.events.Event.{Event}
use Rattle.ph_items.specs.Clocks.{clock_limit}
use Rattle.ph_items.specs.Kinds.{kind_of}
use Rattle.ph_items.specs.Weights.{texts_of}
use Rattle.ph_rows.specs.declared.rows.Row.{Row}
use Rattle.ph_rows.specs.Rows.{row_at, latest_of}
use Rattle.ph_rows.specs.Views.{ViewState}
use Rattle.ph_rows.proofs.RowLemmas.{found_among, is_row_at, row_at-before, row_at-more, row_at_within, slice_get-behind}
use Rattle.ph_facts.specs.Order.{AllMayFollow, AmountsFit, HasBegun, HasSubject, IsInOrder, MayFollow, with_next}
use Rattle.ph_facts.specs.Origins.{HasOrigins, IsOrigin, is_made_once, origins_of}
use Rattle.ph_facts.proofs.OriginLemmas.{has_begun_origin, have_begun-before}

-- an object that has begun has begun with more rows behind
has_begun-before : (rows more : List Row) (row : Row) → HasBegun (row_at row.object rows) row
    → HasBegun (row_at row.object (rows ++ more)) row
has_begun-before rows more row h = at (row_at row.object rows) refl h
  where
    at : (o : Option Row) → row_at row.object rows ≡ o → HasBegun o row → HasBegun (row_at row.object (rows ++ more)) row
    at None e h = absurd h
    at (Some first) e h = subst (λ o. HasBegun o row) (sym (row_at-before row.object rows more first e)) h

-- an event that has a subject has it with more rows behind
has_subject-before : (rows more : List Row) (row : Row) (event : Event)
    → HasSubject (row_at event.object rows) row event → HasSubject (row_at event.object (rows ++ more)) row event
has_subject-before rows more row event h = at (row_at event.object rows) refl h
  where
    at : (o : Option Row) → row_at event.object rows ≡ o → HasSubject o row event
        → HasSubject (row_at event.object (rows ++ more)) row event
    at None e h = absurd h
    at (Some first) e h = subst (λ o. HasSubject o row event) (sym (row_at-before event.object rows more first e)) h

-- the subject of an event stands among the rows
subject_within : (rows : List Row) (row : Row) (event : Event) → HasSubject (row_at event.object rows) row event
    → event.object ≤ length rows
subject_within rows row event h = at (row_at event.object rows) refl h
  where
    at : (o : Option Row) → row_at event.object rows ≡ o → HasSubject o row event → event.object ≤ length rows
    at None e h = absurd h
    at (Some first) e h = (row_at_within event.object rows first e).1

-- no rows are in order at each time that a clock shows
pub order_empty : (time : ℕ) → time ≤ clock_limit → IsInOrder (record { time = time; rows = [] })
order_empty time clock = record {
  clock = clock;
  few = omega arith;
  placed = λ place row e. none place row e;
  begun = λ place row e. none place row e;
  first = λ place row e. none place row e;
  once = λ place row e is. none place row e;
  past = λ place row e. none place row e;
  texts = λ place row e. none place row e;
  within = λ place row e. none place row e;
  origins = λ place row e. none place row e;
  events = λ place row event e is. none place row e;
}
  where
    none : {P : Type 0} (place : ℕ) (row : Row) → row_at place [] ≡ Some row → P
    none place row e = absurd (let within = row_at_within place [] row e in omega arith)

-- rows in order stay so at a later time
pub order_later : (state : ViewState) (now : ℕ) → IsInOrder state → state.time ≤ now → now ≤ clock_limit
    → IsInOrder (record state { time = now })
order_later state now order later clock = record {
  clock = clock;
  few = order.few;
  placed = order.placed;
  begun = order.begun;
  first = order.first;
  once = order.once;
  past = λ place row e. (let before : row.at ≤ state.time = order.past place row e in omega arith);
  texts = order.texts;
  within = order.within;
  origins = order.origins;
  events = order.events;
}

-- rows in order stay so with a row that may follow
pub order_with : (state : ViewState) (new : Row) → IsInOrder state → MayFollow state new → IsInOrder (with_next state new)
order_with state new order follows = record {
  clock = order.clock;
  few = (let room : length state.rows + 1 < 10 ^ 16 = follows.few in let longer = length-append state.rows (new ∷ []) in omega arith);
  placed = λ place row e. elim (row_at-more place state.rows new row e) [
    | inl old ↦ order.placed place row old
    | inr last ↦ subst (λ (r : Row). r.place ≡ place) last.1 (follows.place ∙ sym last.0)
  ];
  begun = λ place row e. elim (row_at-more place state.rows new row e) [
    | inl old ↦ has_begun-before state.rows (new ∷ []) row (order.begun place row old)
    | inr last ↦ subst (λ (r : Row). HasBegun (row_at r.object (state.rows ++ new ∷ [])) r) last.1 follows.begun
  ];
  first = λ place row e. elim (row_at-more place state.rows new row e) [
    | inl old ↦ order.first place row old
    | inr last ↦ subst (λ (r : Row). r.object ≤ place) last.1 (here place last.0)
  ];
  once = λ place row e is. elim (row_at-more place state.rows new row e) [
    | inl old ↦ order.once place row old is
    | inr last ↦ made_once place row last.0 last.1 is
  ];
  past = λ place row e. elim (row_at-more place state.rows new row e) [
    | inl old ↦ order.past place row old
    | inr last ↦ subst (λ (r : Row). r.at ≤ state.time) last.1 (let now : new.at ≡ state.time = follows.at in omega arith)
  ];
  texts = λ place row e. elim (row_at-more place state.rows new row e) [
    | inl old ↦ order.texts place row old
    | inr last ↦ subst (λ (r : Row). list_all is_utf8 (texts_of r.item) ≡ true) last.1 follows.texts
  ];
  within = λ place row e. elim (row_at-more place state.rows new row e) [
    | inl old ↦ order.within place row old
    | inr last ↦ subst (λ (r : Row). AmountsFit r.item) last.1 follows.within
  ];
  origins = λ place row e. elim (row_at-more place state.rows new row e) [
    | inl old ↦ have_begun-before state.rows (new ∷ []) (origins_of row.item) (order.origins place row old)
    | inr last ↦ subst (λ (r : Row). HasOrigins (state.rows ++ new ∷ []) (origins_of r.item)) last.1 (have_begun-before state.rows (new ∷ []) (origins_of new.item) follows.origins)
  ];
  events = λ place row event e is. elim (row_at-more place state.rows new row e) [
    | inl old ↦ ((order.events place row event old is).0, has_subject-before state.rows (new ∷ []) row event (order.events place row event old is).1)
    | inr last ↦ told place row event last.0 (subst (λ (r : Row). (event : Event) → r.item ≡ item.Event event → HasSubject (row_at event.object state.rows) r event) last.1 follows.events event is)
  ];
}
  where
    here : (place : ℕ) → place ≡ length state.rows + 1 → new.object ≤ place
    here place at = let a : new.place ≡ length state.rows + 1 = follows.place in let b : new.object ≤ new.place = follows.first in omega arith

    made_once : (place : ℕ) (row : Row) → place ≡ length state.rows + 1 → new ≡ row → is_made_once row.item ≡ true → row.object ≡ place
    made_once place row at same is =
        let mine : is_made_once new.item ≡ true = subst (λ (r : Row). is_made_once r.item ≡ true) (sym same) is in
        subst (λ (r : Row). r.object ≡ place) same (follows.once mine ∙ follows.place ∙ sym at)

    told : (place : ℕ) (row : Row) (event : Event) → place ≡ length state.rows + 1
        → HasSubject (row_at event.object state.rows) row event
        → (event.object < place) × HasSubject (row_at event.object (state.rows ++ new ∷ [])) row event
    told place row event at h = (let within : event.object ≤ length state.rows = subject_within state.rows row event h in omega arith, has_subject-before state.rows (new ∷ []) row event h)

-- the present version of an object stands at its place, and is of the object
pub latest_of_order : (state : ViewState) (object : ℕ) (row : Row) → IsInOrder state
    → latest_of object state.rows ≡ Some row → (row_at row.place state.rows ≡ Some row) × (row.object ≡ object)
latest_of_order state object row order e = elim (found_among object None state.rows row e) [
  | inl none ↦ absurd (cc)
  | inr there ↦ at there.0 there.1 there.2
]
  where
    at : (i : ℕ) → slice_get state.rows i ≡ Some row → row.object ≡ object
        → (row_at row.place state.rows ≡ Some row) × (row.object ≡ object)
    at i found o =
        let before : i ≡ (i + 1) - 1 = omega arith in
        let place : row_at (i + 1) state.rows ≡ Some row = is_row_at (i + 1) state.rows row (λ z. omega arith) (subst (λ j. slice_get state.rows j ≡ Some row) before found) in
        (subst (λ p. row_at p state.rows ≡ Some row) (sym (order.placed (i + 1) row place)) place, o)

-- an object that is made after the rows has no version among them
pub latest_of-later : (state : ViewState) (object : ℕ) → IsInOrder state → length state.rows < object
    → latest_of object state.rows ≡ None
latest_of-later state object order later = at (latest_of object state.rows) refl
  where
    at : (found : Option Row) → latest_of object state.rows ≡ found → found ≡ None
    at None e = refl
    at (Some row) e =
        let stands : (row_at row.place state.rows ≡ Some row) × (row.object ≡ object) = latest_of_order state object row order e in
        let first : row.object ≤ row.place = order.first row.place row stands.0 in
        let within : (0 < row.place) × (row.place ≤ length state.rows) = row_at_within row.place state.rows row stands.0 in
        let last : row.place ≤ length state.rows = within.1 in
        let same : row.object ≡ object = stands.1 in
        absurd (omega arith)

-- the versions of an object are of one kind
pub versions_alike : (state : ViewState) (place other : ℕ) (row second : Row) → IsInOrder state
    → row_at place state.rows ≡ Some row → row_at other state.rows ≡ Some second → row.object ≡ second.object
    → kind_of row.item ≡ kind_of second.item
versions_alike state place other row second order here there same =
    at (row_at row.object state.rows) (order.begun place row here)
    (subst (λ (o : ℕ). HasBegun (row_at o state.rows) second) (sym same) (order.begun other second there))
  where
    at : (first : Option Row) → HasBegun first row → HasBegun first second → kind_of row.item ≡ kind_of second.item
    at None h k = absurd h
    at (Some first) h k = sym h.kind ∙ k.kind

-- the rows behind others stand at their places
pub stands_behind : (state : ViewState) (more : List Row) (i : ℕ) (row : Row) → IsInOrder (record state { rows = state.rows ++ more })
    → slice_get more i ≡ Some row → row_at row.place (state.rows ++ more) ≡ Some row
stands_behind state more i row order found =
    let before : length state.rows + i ≡ (length state.rows + i + 1) - 1 = omega arith in
    let place : row_at (length state.rows + i + 1) (state.rows ++ more) ≡ Some row =
    is_row_at (length state.rows + i + 1) (state.rows ++ more) row (λ z. omega arith)
    (subst (λ j. slice_get (state.rows ++ more) j ≡ Some row) before (slice_get-behind state.rows more i ∙ found)) in
    subst (λ p. row_at p (state.rows ++ more) ≡ Some row) (sym (order.placed (length state.rows + i + 1) row place)) place

-- rows in order stay so with rows that may follow one after another
pub order_with_all : (state : ViewState) (rows : List Row) → IsInOrder state → AllMayFollow state rows
    → IsInOrder (record state { rows = state.rows ++ rows })
order_with_all state [] order follow =
    subst (λ (all : List Row). IsInOrder (record state { rows = all })) (sym (append-nil state.rows)) order
order_with_all state (row ∷ rows) order follow =
    subst (λ (all : List Row). IsInOrder (record state { rows = all })) (append_assoc state.rows (row ∷ []) rows)
    (order_with_all (with_next state row) rows (order_with state row order follow.0) follow.1)

-- ---- what a row that stands says

-- its texts are UTF-8
pub texts_stand : (state : ViewState) (row : Row) (content : Item) → IsInOrder state → row_at row.place state.rows ≡ Some row
    → row.item ≡ content → list_all is_utf8 (texts_of content) ≡ true
texts_stand state row content order stands is =
    subst (λ (o : Item). list_all is_utf8 (texts_of o) ≡ true) is (order.texts row.place row stands)

-- its amounts fit one another
pub amounts_stand : (state : ViewState) (row : Row) (content : Item) → IsInOrder state → row_at row.place state.rows ≡ Some row
    → row.item ≡ content → AmountsFit content
amounts_stand state row content order stands is = subst AmountsFit is (order.within row.place row stands)

-- the objects that it names have begun
pub origins_stand : (state : ViewState) (row : Row) (content : Item) → IsInOrder state → row_at row.place state.rows ≡ Some row
    → row.item ≡ content → HasOrigins state.rows (origins_of content)
origins_stand state row content order stands is =
    subst (λ (o : Item). HasOrigins state.rows (origins_of o)) is (order.origins row.place row stands)

-- and so has its own object, which another item may name
pub origin_stands : (state : ViewState) (row : Row) (content : Item) → IsInOrder state → row_at row.place state.rows ≡ Some row
    → row.item ≡ content → IsOrigin (row_at row.object state.rows) (record { kind = kind_of content; number = row.object })
origin_stands state row content order stands is =
    subst (λ (o : Item). IsOrigin (row_at row.object state.rows) (record { kind = kind_of o; number = row.object })) is
    (has_begun_origin (row_at row.object state.rows) row (order.begun row.place row stands))
