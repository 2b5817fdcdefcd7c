-- The rows of a batch that may follow those of a view, as rows are added to it.
use Rattle.std.proofs.Common.{◌≡◌, ℕ, ◌+◌, ◌^◌, ◌<◌, false, [], ◌∷◌, ◌++◌, Some, length, refl, arith}
use Rattle.std.proofs.lemmas.List.{length-append}
use Rattle.ph_items.specs.declared.items.Item.{Item}
use Rattle.ph_items.specs.declared.event_kinds.EventKind.{EventKind}
use Rattle.ph_items.specs.Kinds.{kind_of}
use Rattle.ph_rows.specs.declared.rows.Row.{Row}
use Rattle.ph_rows.specs.Batches.{BatchState, last_place, next_row, with_row, with_announced}
use Rattle.ph_rows.specs.Rows.{row_at}
use Rattle.ph_rows.specs.Views.{ViewState}
use Rattle.ph_rows.proofs.RowLemmas.{row_at-before}
use Rattle.ph_facts.specs.Order.{AllMayFollow, IsInOrder, MayFollow}
use Rattle.ph_facts.specs.Origins.{is_made_once}
use Rattle.ph_facts.proofs.FollowLemmas.{IsNext, MayStand, first_follows, follow_both, further_follows}
use Rattle.ph_facts.proofs.OrderLemmas.{order_with_all}

-- the view with the rows of a batch behind its own
abbrev pub with_batch : ViewState → BatchState → ViewState
with_batch state batch = record state { rows = state.rows ++ batch.rows }

-- the batch began after the rows of the view, at its time, and its rows may follow them
pub record Continues (state : ViewState) (batch : BatchState) : Type 0 where
  pub began : batch.began ≡ length state.rows
  pub at : batch.at ≡ state.time
  pub follow : AllMayFollow state batch.rows

-- a batch continues with a row that may follow its own
pub continues_with : (state : ViewState) (batch : BatchState) (object account : ℕ) (content : Item) → Continues state batch
    → MayFollow (with_batch state batch) (next_row batch object account content)
    → Continues state (with_row batch object account content)
continues_with state batch object account content continues follows = record {
  began = continues.began;
  at = continues.at;
  follow = follow_both state batch.rows (next_row batch object account content ∷ []) continues.follow (follows, tt);
}

-- what is announced adds no object row
pub continues_told : (state : ViewState) (batch : BatchState) (sort : EventKind) (object : ℕ) → Continues state batch
    → Continues state (with_announced batch sort object)
continues_told state batch sort object continues = record {
  began = continues.began;
  at = continues.at;
  follow = continues.follow;
}

-- the next row of a batch stands at the next place behind the view and the batch
next_is : (state : ViewState) (batch : BatchState) (object account : ℕ) (content : Item) → Continues state batch
    → length state.rows + length batch.rows + 1 < 10 ^ 16
    → IsNext (with_batch state batch) (next_row batch object account content)
next_is state batch object account content continues few =
    let began : batch.began ≡ length state.rows = continues.began in
    let count : length (state.rows ++ batch.rows) ≡ length state.rows + length batch.rows = length-append state.rows batch.rows in
    record { few = omega arith; place = omega arith; at = continues.at }

-- the first version of a new object may follow
pub first_may_follow : (state : ViewState) (batch : BatchState) (account : ℕ) (content : Item) → Continues state batch
    → length state.rows + length batch.rows + 1 < 10 ^ 16 → MayStand (state.rows ++ batch.rows) content
    → MayFollow (with_batch state batch) (next_row batch (last_place batch + 1) account content)
first_may_follow state batch account content continues few stands =
    let next = next_is state batch (last_place batch + 1) account content continues few in
    first_follows (with_batch state batch) (next_row batch (last_place batch + 1) account content) next next.place stands

-- the batch continues with it
pub continues_first : (state : ViewState) (batch : BatchState) (account : ℕ) (content : Item) → Continues state batch
    → length state.rows + length batch.rows + 1 < 10 ^ 16 → MayStand (state.rows ++ batch.rows) content
    → Continues state (with_row batch (last_place batch + 1) account content)
continues_first state batch account content continues few stands =
    continues_with state batch (last_place batch + 1) account content continues
    (first_may_follow state batch account content continues few stands)

-- an item is one of a further version of the object of a row
pub record IsFurtherOf (old : Row) (content : Item) : Type 0 where
  pub kind : kind_of content ≡ kind_of old.item
  pub changes : is_made_once content ≡ false

-- a further version of an object of which one stands in the view or in the batch may follow
pub version_may_follow : (state : ViewState) (batch : BatchState) (old : Row) (content : Item) → IsInOrder state
    → Continues state batch → row_at old.place (state.rows ++ batch.rows) ≡ Some old
    → length state.rows + length batch.rows + 1 < 10 ^ 16 → MayStand (state.rows ++ batch.rows) content → IsFurtherOf old content
    → MayFollow (with_batch state batch) (next_row batch old.object old.account content)
version_may_follow state batch old content order continues there few stands further =
    further_follows (with_batch state batch) old (next_row batch old.object old.account content)
    (order_with_all state batch.rows order continues.follow) there
    (next_is state batch old.object old.account content continues few) stands
    (record { object = refl; account = refl; kind = further.kind }) further.changes

-- a further version of an object that stands in the view may follow
pub further_may_follow : (state : ViewState) (batch : BatchState) (old : Row) (content : Item) → IsInOrder state
    → Continues state batch → row_at old.place state.rows ≡ Some old → length state.rows + length batch.rows + 1 < 10 ^ 16
    → MayStand (state.rows ++ batch.rows) content → IsFurtherOf old content
    → MayFollow (with_batch state batch) (next_row batch old.object old.account content)
further_may_follow state batch old content order continues there few stands further =
    version_may_follow state batch old content order continues (row_at-before old.place state.rows batch.rows old there) few stands further

-- the batch continues with it
pub continues_further : (state : ViewState) (batch : BatchState) (old : Row) (content : Item) → IsInOrder state
    → Continues state batch → row_at old.place state.rows ≡ Some old → length state.rows + length batch.rows + 1 < 10 ^ 16
    → MayStand (state.rows ++ batch.rows) content → IsFurtherOf old content
    → Continues state (with_row batch old.object old.account content)
continues_further state batch old content order continues there few stands further =
    continues_with state batch old.object old.account content continues
    (further_may_follow state batch old content order continues there few stands further)
