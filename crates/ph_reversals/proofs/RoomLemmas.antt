-- Batches under way that have room for so many rows more.
use Rattle.std.proofs.Common.{◌≡◌, ℕ, ◌+◌, ◌^◌, ◌≤◌, ◌<◌, List, [], ◌∷◌, ◌++◌, Some, length, refl, sym, ap, ◌∙◌, subst, arith}
use Rattle.std.proofs.lemmas.List.{length-append}
use Rattle.ph_base.specs.declared.ids.Kind.{Kind}
use Rattle.ph_items.specs.declared.event_kinds.EventKind.{EventKind}
use Rattle.ph_items.specs.declared.items.Item.{Item}
use Rattle.ph_items.specs.Kinds.{kind_of}
use Rattle.ph_items.specs.Words.{subject_of}
use Rattle.ph_rows.specs.declared.rows.Row.{Row}
use Rattle.ph_rows.specs.Batches.{BatchState, last_place, next_row, with_announced, with_row}
use Rattle.ph_rows.specs.Rows.{row_at}
use Rattle.ph_rows.specs.Views.{ViewState}
use Rattle.ph_rows.proofs.RowLemmas.{row_at_within}
use Rattle.ph_facts.specs.Entering.{MayBeEntered}
use Rattle.ph_facts.specs.Keeps.{IsReady, batch_after}
use Rattle.ph_facts.specs.Order.{AllMayFollow, IsInOrder}
use Rattle.ph_facts.specs.Origins.{IsOrigin}
use Rattle.ph_facts.specs.Sound.{IsSound, KeepLaws}
use Rattle.ph_facts.proofs.BatchLemmas.{IsFurtherOf}
use Rattle.ph_facts.proofs.FollowLemmas.{MayStand}
use Rattle.ph_facts.proofs.HeldLemmas.{AllBeside, held_beside}
use Rattle.ph_facts.proofs.LawLemmas.{AreSpoken, laws_spoken}
use Rattle.ph_facts.proofs.OrderLemmas.{order_with_all}
use Rattle.ph_facts.proofs.OriginLemmas.{has_begun_still}
use Rattle.ph_facts.proofs.UnderwayLemmas.{IsUnderway, underway_first, underway_further, underway_told}
use Rattle.ph_charges.specs.NewRows.{NewRow, with_new_rows}
use Rattle.ph_charges.proofs.NewRowLemmas.{AllStand, Begun, new_rows_are, new_rows_underway, rows_as_many, rows_from}

-- a batch is under way, and sixteen digits number so many rows more
pub record HasRoom (state : ViewState) (batch : BatchState) (room : ℕ) : Type 0 where
  pub underway : IsUnderway state batch
  pub few : length state.rows + length batch.rows + room < 10 ^ 16

-- the batch of an entry, to begin with
pub room_after : (state : ViewState) (entry : ℕ) → IsReady state → HasRoom state (batch_after state entry) 64
room_after state entry ready =
    let room = ready.room in
    record { underway = record { continues = record { began = refl; at = refl; follow = tt }; told = tt }; few = omega arith }

-- so many rows more are a few less
pub room_less : (state : ViewState) (batch : BatchState) (count room : ℕ) → HasRoom state batch (count + room) → HasRoom state batch room
room_less state batch count room has = let few = has.few in record { underway = has.underway; few = omega arith }

-- with new rows that may stand
pub room_new : (state : ViewState) (batch : BatchState) (more : List NewRow) (count room : ℕ) → IsInOrder state
    → HasRoom state batch (count + room) → length more ≡ count → AllStand state batch more → HasRoom state (with_new_rows more batch) room
room_new state batch more count room order has many stand =
    let few = has.few in
    record {
      underway = new_rows_underway state batch more order has.underway (omega arith) stand;
      few = (let longer : length (with_new_rows more batch).rows ≡ length batch.rows + length more =
          ap length (new_rows_are more batch)
          ∙ length-append batch.rows (rows_from (last_place batch + 1) batch.at more)
          ∙ ap (λ n. length batch.rows + n) (rows_as_many (last_place batch + 1) batch.at more) in omega arith);
    }

-- with one more, of whatever object
room_with : (state : ViewState) (batch : BatchState) (object account : ℕ) (content : Item) (room : ℕ) → HasRoom state batch (1 + room)
    → IsUnderway state (with_row batch object account content) → HasRoom state (with_row batch object account content) room
room_with state batch object account content room has underway =
    let few = has.few in
    let longer : length (batch.rows ++ next_row batch object account content ∷ []) ≡ length batch.rows + 1 =
    length-append batch.rows (next_row batch object account content ∷ []) in
    record { underway = underway; few = omega arith }

-- with the first version of a new object
pub room_first : (state : ViewState) (batch : BatchState) (account : ℕ) (content : Item) (room : ℕ) → IsInOrder state
    → HasRoom state batch (1 + room) → MayStand (state.rows ++ batch.rows) content
    → HasRoom state (with_row batch (last_place batch + 1) account content) room
room_first state batch account content room order has stands =
    let few = has.few in
    room_with state batch (last_place batch + 1) account content room has
    (underway_first state batch account content order has.underway (omega arith) stands)

-- with a further version of an object that stands in the view
pub room_further : (state : ViewState) (batch : BatchState) (old : Row) (content : Item) (room : ℕ) → IsInOrder state
    → HasRoom state batch (1 + room) → row_at old.place state.rows ≡ Some old → MayStand (state.rows ++ batch.rows) content
    → IsFurtherOf old content → HasRoom state (with_row batch old.object old.account content) room
room_further state batch old content room order has there stands further =
    let few = has.few in
    room_with state batch old.object old.account content room has
    (underway_further state batch old content order has.underway there (omega arith) stands further)

-- with an event of the object of its last row
pub room_told : (state : ViewState) (batch : BatchState) (object account : ℕ) (content : Item) (sort : EventKind) (room : ℕ)
    → HasRoom state (with_row batch object account content) room → kind_of content ≡ subject_of sort
    → HasRoom state (with_announced (with_row batch object account content) sort object) room
room_told state batch object account content sort room has subject = record {
  underway = underway_told state batch object account content sort has.underway subject;
  few = has.few;
}

-- what has begun in the view has behind a batch
pub begun_behind : (state : ViewState) (batch : BatchState) (kind : Kind) (number : ℕ)
    → IsOrigin (row_at number state.rows) (record { kind = kind; number = number }) → Begun (state.rows ++ batch.rows) kind number
begun_behind state batch kind number begun = has_begun_still state.rows batch.rows (record { kind = kind; number = number }) begun

-- no object of a row that stands in the view has a later number than its rows
pub isnt_later : (state : ViewState) (row : Row) (place : ℕ) → IsInOrder state → row_at row.place state.rows ≡ Some row
    → length state.rows < place → row.object ≡ place → ⊥
isnt_later state row place order stands later same =
    let first : row.object ≤ row.place = order.first row.place row stands in
    let last : row.place ≤ length state.rows = (row_at_within row.place state.rows row stands).1 in
    omega arith

-- a batch that is under way may be entered, where the rows keep the laws with it
pub entered_by : (state : ViewState) (batch : BatchState) → IsUnderway state batch → KeepLaws (state.rows ++ batch.rows)
    → MayBeEntered state batch
entered_by state batch underway laws = record {
  began = underway.continues.began;
  at = underway.continues.at;
  follow = underway.continues.follow;
  laws = laws;
  told = underway.told;
}

-- so it may where its rows are these, which speak of all amounts and leave what is held
pub entered_as : (state : ViewState) (batch : BatchState) (rows : List Row) → IsSound state → IsUnderway state batch → batch.rows ≡ rows
    → AreSpoken state.rows rows → AllBeside state.rows rows → MayBeEntered state batch
entered_as state batch rows sound underway are spoken beside =
    entered_by state batch underway
    (subst (λ (more : List Row). KeepLaws (state.rows ++ more)) (sym are)
    (laws_spoken state.rows rows sound.laws spoken
    (held_beside state rows sound.order (order_with_all state rows sound.order (subst (AllMayFollow state) are underway.continues.follow))
    beside sound.laws.held)))
