-- What a view shows.
use Rattle.std.specs.Prelude.{ℕ, List}
use Rattle.ph_rows.specs.declared.rows.Row.{Row}

-- the time, and the rows of a history in their order
pub record ViewState : Type 0 where
  pub time : ℕ
  pub rows : List Row

-- a list view: the time, its rows, and for how many more rows it has room
pub record ListState : Type 0 where
  pub time : ℕ
  pub rows : List Row
  pub room : ℕ
