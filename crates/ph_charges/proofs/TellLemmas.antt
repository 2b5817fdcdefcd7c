-- The events of a split tell of its rows, and a batch may be entered with them.
use Rattle.std.specs.Prelude.{option_map, slice_get}
use Rattle.std.proofs.Common.{◌≡◌, ℕ, suc, ◌+◌, ◌≤◌, List, [], ◌∷◌, ◌++◌, Option, None, Some, length, refl, sym, ap, ◌∙◌, subst, arith}
use Rattle.std.specs.List.{cons_option}
use Rattle.std.proofs.lemmas.List.{length-append}
use Rattle.ph_items.specs.declared.event_kinds.EventKind.{EventKind}
use Rattle.ph_items.specs.declared.event_kinds.EventKind.TheVariants as event
use Rattle.ph_items.specs.declared.items.Item.{Item}
use Rattle.ph_items.specs.declared.items.Item.TheVariants as item
use Rattle.ph_items.specs.Kinds.{kind_of}
use Rattle.ph_items.specs.Words.{subject_of}
use Rattle.ph_rows.specs.declared.batches.Announced.{Announced}
use Rattle.ph_rows.specs.declared.rows.Row.{Row}
use Rattle.ph_rows.specs.Batches.{BatchState, with_announced}
use Rattle.ph_rows.specs.Rows.{latest_of}
use Rattle.ph_rows.specs.Views.{ViewState}
use Rattle.ph_facts.specs.Entering.{AreTold, IsToldBy, MayBeEntered}
use Rattle.ph_facts.specs.Keeps.{MayBeAdded}
use Rattle.ph_facts.specs.Order.{IsInOrder}
use Rattle.ph_facts.specs.Shown.{shown_in}
use Rattle.ph_facts.specs.Sound.{IsSound, KeepLaws}
use Rattle.ph_facts.specs.Touches.{Touch}
use Rattle.ph_facts.proofs.EnterLemmas.{row_told}
use Rattle.ph_facts.proofs.OrderLemmas.{order_with_all}
use Rattle.ph_facts.proofs.UnderwayLemmas.{IsUnderway, underway_announced}
use Rattle.ph_charges.specs.Told.{split_event, split_events, told_by, with_all_announced, with_split_told}

-- ---- what they tell of

-- an event of a split tells of an object of its kind
event_kind : (content : Item) (sort : EventKind) → split_event content ≡ Some sort → kind_of content ≡ subject_of sort
event_kind (item.Account account) sort e = absurd (cc)
event_kind (item.Intent intent) sort e = absurd (cc)
event_kind (item.Attempt attempt) sort e = absurd (cc)
event_kind (item.Charge charge) sort e = absurd (cc)
event_kind (item.Refund refund) sort e = absurd (cc)
event_kind (item.Dispute dispute) sort e = absurd (cc)
event_kind (item.Transfer transfer) sort e = let same : event.TransferCreated ≡ sort = cc in ap subject_of same
event_kind (item.Reversal reversal) sort e = absurd (cc)
event_kind (item.Fee fee) sort e = let same : event.FeeCreated ≡ sort = cc in ap subject_of same
event_kind (item.FeeRefund fee_refund) sort e = absurd (cc)
event_kind (item.Txn txn) sort e = absurd (cc)
event_kind (item.Event told) sort e = absurd (cc)

-- a row that stands among those that are added is told by the event that it has
by_row : (state : ViewState) (rows : List Row) (i : ℕ) (row : Row) (told : Announced)
    → IsInOrder (record state { rows = state.rows ++ rows }) → slice_get rows i ≡ Some row → told_by row ≡ Some told
    → IsToldBy (latest_of told.object rows) told.sort
by_row state rows i row told order there e = at (split_event row.item) refl e
  where
    at : (sort : Option EventKind) → split_event row.item ≡ sort
        → option_map (λ (kind : EventKind). record { sort = kind; object = row.object }) sort ≡ Some told
        → IsToldBy (latest_of told.object rows) told.sort
    at None is e = absurd (cc)
    at (Some sort) is e =
        let same : record { sort = sort; object = row.object } ≡ told = cc in
        subst (λ (t : Announced). IsToldBy (latest_of t.object rows) t.sort) same
        (row_told state rows i row sort order there (event_kind row.item sort is))

-- so are all of some of these rows
events_tell : (state : ViewState) (rows rest : List Row) → IsInOrder (record state { rows = state.rows ++ rows })
    → ((i : ℕ) (row : Row) → slice_get rest i ≡ Some row → (j : ℕ) × (slice_get rows j ≡ Some row)) → AreTold rows (split_events rest)
events_tell state rows [] order there = tt
events_tell state rows (row ∷ rest) order there =
    at (told_by row) refl (events_tell state rows rest order (λ i other e. there (suc i) other e))
  where
    at : (told : Option Announced) → told_by row ≡ told → AreTold rows (split_events rest)
        → AreTold rows (cons_option told (split_events rest))
    at None e more = more
    at (Some told) e more =
        let found = there 0 row refl in (by_row state rows found.0 row told order found.1 e, more)

-- ---- announced one after another

-- they leave the rows
pub rows_stay : (events : List Announced) (batch : BatchState) → (with_all_announced events batch).rows ≡ batch.rows
rows_stay [] batch = refl
rows_stay (told ∷ events) batch = rows_stay events (with_announced batch told.sort told.object)

-- and are as many more
announced_more : (events : List Announced) (batch : BatchState)
    → length (with_all_announced events batch).announced ≡ length batch.announced + length events
announced_more [] batch = omega arith
announced_more (told ∷ events) batch =
    let more = announced_more events (with_announced batch told.sort told.object) in
    let one : length (batch.announced ++ told ∷ []) ≡ length batch.announced + 1 = length-append batch.announced (told ∷ []) in
    let count : length (told ∷ events) ≡ length events + 1 = omega arith in
    omega arith

-- a batch under way stays so with events that tell of its rows
all_underway : (state : ViewState) (events : List Announced) (batch : BatchState) → IsUnderway state batch
    → AreTold batch.rows events → IsUnderway state (with_all_announced events batch)
all_underway state [] batch underway tell = underway
all_underway state (told ∷ events) batch underway tell =
    all_underway state events (with_announced batch told.sort told.object)
    (underway_announced state batch told.sort told.object underway tell.0) tell.1

-- ---- a batch with the events of its split

-- it is under way
pub told_underway : (state : ViewState) (batch : BatchState) → IsInOrder state → IsUnderway state batch
    → IsUnderway state (with_split_told batch)
told_underway state batch order underway =
    all_underway state (split_events batch.rows) batch underway
    (events_tell state batch.rows batch.rows (order_with_all state batch.rows order underway.continues.follow) (λ i row e. (i, e)))

-- it may be entered
pub told_enters : (state : ViewState) (batch : BatchState) → IsSound state → MayBeEntered state batch
    → MayBeEntered state (with_split_told batch)
told_enters state batch sound enters =
    let underway = told_underway state batch sound.order
    (record { continues = record { began = enters.began; at = enters.at; follow = enters.follow }; told = enters.told }) in
    let continues = underway.continues in
    record {
      began = continues.began;
      at = continues.at;
      follow = continues.follow;
      laws = subst (λ (rows : List Row). KeepLaws (state.rows ++ rows)) (sym (rows_stay (split_events batch.rows) batch)) enters.laws;
      told = underway.told;
    }

-- and added, where there are at most two
pub told_added : (state : ViewState) (most : ℕ) (touch : Touch) (batch : BatchState) → IsSound state
    → MayBeAdded state most touch batch → length (split_events batch.rows) ≤ 2 → MayBeAdded state (most + 2) touch (with_split_told batch)
told_added state most touch batch sound may two =
    let rows : (with_split_told batch).rows ≡ batch.rows = rows_stay (split_events batch.rows) batch in
    let count : length (with_split_told batch).rows ≡ length batch.rows = ap (λ (all : List Row). length all) rows in
    let more = announced_more (split_events batch.rows) batch in
    let few = may.few in
    record {
      enters = told_enters state batch sound may.enters;
      few = omega arith;
      shown = ap shown_in rows ∙ may.shown;
    }

-- the events of rows and of more behind them
pub events_both : (rows more : List Row)
    → length (split_events (rows ++ more)) ≡ length (split_events rows) + length (split_events more)
events_both [] more = omega arith
events_both (row ∷ rows) more = at (told_by row) (events_both rows more)
  where
    at : (told : Option Announced)
        → length (split_events (rows ++ more)) ≡ length (split_events rows) + length (split_events more)
        → length (cons_option told (split_events (rows ++ more))) ≡ length (cons_option told (split_events rows)) + length (split_events more)
    at None same = same
    at (Some first) same = omega arith
