-- Batches that continue a view and tell of their rows, as rows and announcements are added to them.
use Rattle.std.proofs.Common.{◌≡◌, ℕ, ◌+◌, ◌^◌, ◌<◌, List, [], ◌∷◌, ◌++◌, Option, Some, length, sym, subst}
use Rattle.ph_rows.specs.declared.rows.Row.{Row}
use Rattle.ph_rows.specs.declared.batches.Announced.{Announced}
use Rattle.ph_items.specs.declared.items.Item.{Item}
use Rattle.ph_items.specs.declared.event_kinds.EventKind.{EventKind}
use Rattle.ph_rows.specs.Batches.{BatchState, last_place, next_row, with_row, with_announced}
use Rattle.ph_facts.specs.Entering.{AreTold, IsToldBy}
use Rattle.ph_items.specs.Kinds.{kind_of}
use Rattle.ph_rows.specs.Rows.{row_at, latest_of}
use Rattle.ph_facts.specs.Order.{IsInOrder, MayFollow}
use Rattle.ph_rows.specs.Views.{ViewState}
use Rattle.ph_items.specs.Words.{subject_of}
use Rattle.ph_rows.proofs.RowLemmas.{latest_of-last}
use Rattle.ph_facts.proofs.FollowLemmas.{MayStand}
use Rattle.ph_facts.proofs.BatchLemmas.{Continues, IsFurtherOf, continues_told, continues_with, first_may_follow, further_may_follow, with_batch}
use Rattle.ph_facts.proofs.EnterLemmas.{told_with}
use Rattle.ph_facts.proofs.OrderLemmas.{order_with_all}

-- a batch is under way: it continues the view, and its events tell of its rows
pub record IsUnderway (state : ViewState) (batch : BatchState) : Type 0 where
  pub continues : Continues state batch
  pub told : AreTold batch.rows batch.announced

-- it stays so with a row that may follow its own
pub underway_with : (state : ViewState) (batch : BatchState) (object account : ℕ) (content : Item) → IsInOrder state
    → IsUnderway state batch → MayFollow (with_batch state batch) (next_row batch object account content)
    → IsUnderway state (with_row batch object account content)
underway_with state batch object account content order underway follows =
    let new = next_row batch object account content in
    let continues = continues_with state batch object account content underway.continues follows in
    record {
      continues = continues;
      told = told_with state batch.rows (new ∷ []) batch.announced (order_with_all state (batch.rows ++ new ∷ []) order continues.follow) underway.told;
    }

-- announcements and one more
told_push : (rows : List Row) (announced : List Announced) (told : Announced) → AreTold rows announced
    → IsToldBy (latest_of told.object rows) told.sort → AreTold rows (announced ++ told ∷ [])
told_push rows [] told tells last = (last, tt)
told_push rows (first ∷ announced) told tells last = (tells.0, told_push rows announced told tells.1 last)

-- and with an event of the object of its last row
pub underway_told : (state : ViewState) (batch : BatchState) (object account : ℕ) (content : Item) (sort : EventKind)
    → IsUnderway state (with_row batch object account content) → kind_of content ≡ subject_of sort
    → IsUnderway state (with_announced (with_row batch object account content) sort object)
underway_told state batch object account content sort underway subject =
    let new = next_row batch object account content in
    record {
      continues = continues_told state (with_row batch object account content) sort object underway.continues;
      told = told_push (batch.rows ++ new ∷ []) batch.announced (record { sort = sort; object = object }) underway.told
          (subst (λ (found : Option Row). IsToldBy found sort)
          (sym (latest_of-last batch.rows new)) subject);
    }

-- and with an event of an object of which it has a row
pub underway_announced : (state : ViewState) (batch : BatchState) (sort : EventKind) (object : ℕ) → IsUnderway state batch
    → IsToldBy (latest_of object batch.rows) sort → IsUnderway state (with_announced batch sort object)
underway_announced state batch sort object underway tells = record {
  continues = continues_told state batch sort object underway.continues;
  told = told_push batch.rows batch.announced (record { sort = sort; object = object }) underway.told tells;
}

-- and with the first version of a new object
pub underway_first : (state : ViewState) (batch : BatchState) (account : ℕ) (content : Item) → IsInOrder state
    → IsUnderway state batch → length state.rows + length batch.rows + 1 < 10 ^ 16 → MayStand (state.rows ++ batch.rows) content
    → IsUnderway state (with_row batch (last_place batch + 1) account content)
underway_first state batch account content order underway few stands =
    underway_with state batch (last_place batch + 1) account content order underway
    (first_may_follow state batch account content underway.continues few stands)

-- and with a further version of an object that stands in the view
pub underway_further : (state : ViewState) (batch : BatchState) (old : Row) (content : Item) → IsInOrder state
    → IsUnderway state batch → row_at old.place state.rows ≡ Some old → length state.rows + length batch.rows + 1 < 10 ^ 16
    → MayStand (state.rows ++ batch.rows) content → IsFurtherOf old content
    → IsUnderway state (with_row batch old.object old.account content)
underway_further state batch old content order underway there few stands further =
    underway_with state batch old.object old.account content order underway
    (further_may_follow state batch old content order underway.continues there few stands further)
