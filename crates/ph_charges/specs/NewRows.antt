-- Rows that are added one after another, each the first version of a new object.
use Rattle.std.specs.Prelude.{ℕ, ◌+◌, List, [], ◌∷◌}
use Rattle.ph_items.specs.declared.items.Item.{Item}
use Rattle.ph_rows.specs.Batches.{BatchState, last_place, with_row}

-- the first version of an object, and the account that the object belongs to
pub record NewRow : Type 0 where
  pub account : ℕ
  pub item : Item

-- the batch with these rows behind its own
abbrev pub with_new_rows : List NewRow → BatchState → BatchState
with_new_rows [] batch = batch
with_new_rows (row ∷ rows) batch = with_new_rows rows (with_row batch (last_place batch + 1) row.account row.item)
