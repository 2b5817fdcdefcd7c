-- What rows weigh: 256 each, and the lengths of their texts.
use Rattle.std.specs.Prelude.{ℕ, ◌+◌, List, [], ◌∷◌}
use Rattle.ph_items.specs.Weights.{texts_of, total_length}
use Rattle.ph_rows.specs.declared.rows.Row.{Row}

-- what a row weighs
abbrev pub row_weight : Row → ℕ
row_weight row = 256 + total_length (texts_of row.item)

-- what rows weigh together
abbrev pub rows_weight : List Row → ℕ
rows_weight [] = 0
rows_weight (row ∷ rows) = row_weight row + rows_weight rows
