-- A batch: the object rows that an entry adds, and the events that it announces.
use Rattle.std.specs.Prelude.{ℕ, ◌+◌, List, [], ◌∷◌, ◌++◌, Option, None, Some, length}
use Rattle.std.specs.Option.{option_or}
use Rattle.ph_rows.specs.declared.rows.Row.{Row}
use Rattle.ph_items.specs.declared.items.Item.{Item}
use Rattle.ph_items.specs.declared.items.Item.TheVariants as item
use Rattle.ph_items.specs.declared.event_kinds.EventKind.{EventKind}
use Rattle.ph_rows.specs.declared.batches.Announced.{Announced}
use Rattle.ph_rows.specs.Rows.{latest_of}

-- the number of rows before it, its time, the place of its entry, its object rows, and what it announces
pub record BatchState : Type 0 where
  pub began : ℕ
  pub at : ℕ
  pub entry : ℕ
  pub rows : List Row
  pub announced : List Announced

-- a batch with nothing in it yet
abbrev pub empty_batch : ℕ → ℕ → ℕ → BatchState
empty_batch count at entry = record { began = count; at = at; entry = entry; rows = []; announced = [] }

-- the place of its last row, or the number of rows before it
abbrev pub last_place : BatchState → ℕ
last_place batch = batch.began + length batch.rows

-- the row of a version of an object, at the next place and the batch's time
abbrev pub next_row : BatchState → ℕ → ℕ → Item → Row
next_row batch object account content = record {
  place = last_place batch + 1;
  object = object;
  at = batch.at;
  account = account;
  item = content;
}

-- the batch with one row more: a version of an object
abbrev pub with_row : BatchState → ℕ → ℕ → Item → BatchState
with_row batch object account content = record batch {
  rows = batch.rows ++ next_row batch object account content ∷ [];
}

-- the batch with one announcement more
abbrev pub with_announced : BatchState → EventKind → ℕ → BatchState
with_announced batch sort object = record batch {
  announced = batch.announced ++ record { sort = sort; object = object } ∷ [];
}

-- the last version of an object: in the batch of an entry where it stands there, and else in the rows before the entry
abbrev pub version_with : List Row → BatchState → ℕ → Option Row
version_with rows batch object = option_or (latest_of object batch.rows) (latest_of object rows)

-- the account of a version, or 0, the number of none
abbrev pub account_of : Option Row → ℕ
account_of None = 0
account_of (Some row) = row.account

-- the row of an event, at a place: it belongs to the account of its object's last version among the object rows
abbrev pub event_row : Option (List ℕ) → ℕ → List Row → ℕ → Announced → Row
event_row key at rows place told = record {
  place = place;
  object = place;
  at = at;
  account = account_of (latest_of told.object rows);
  item = item.Event (record { sort = told.sort; object = told.object; key = key });
}

-- the rows of events announced of objects with these rows, at the places after a number of rows
abbrev pub event_rows : Option (List ℕ) → ℕ → List Row → ℕ → List Announced → List Row
event_rows key at rows count [] = []
event_rows key at rows count (told ∷ announced) =
    event_row key at rows (count + 1) told ∷ event_rows key at rows (count + 1) announced

-- the rows that a batch makes, under the idempotency key of its request: the object rows, then the event rows
abbrev pub made_rows : Option (List ℕ) → BatchState → List Row
made_rows key batch = batch.rows ++ event_rows key batch.at batch.rows (last_place batch) batch.announced
