-- The objects that items name, as rows are added.
use Rattle.std.proofs.Common.{◌≡◌, ◌≤◌, List, [], ◌∷◌, ◌++◌, Option, None, Some, length, refl, sym, subst}
use Rattle.ph_items.specs.Kinds.{kind_of}
use Rattle.ph_rows.specs.declared.rows.Row.{Row}
use Rattle.ph_rows.specs.Rows.{row_at}
use Rattle.ph_rows.proofs.RowLemmas.{row_at-before, row_at_within}
use Rattle.ph_facts.specs.Order.{HasBegun}
use Rattle.ph_facts.specs.Origins.{HasOrigins, IsOrigin, Origin}

-- an object that has begun has begun with more rows behind
pub has_begun_still : (rows more : List Row) (origin : Origin) → IsOrigin (row_at origin.number rows) origin
    → IsOrigin (row_at origin.number (rows ++ more)) origin
has_begun_still rows more origin h = at (row_at origin.number rows) refl h
  where
    at : (o : Option Row) → row_at origin.number rows ≡ o → IsOrigin o origin → IsOrigin (row_at origin.number (rows ++ more)) origin
    at None e h = absurd h
    at (Some first) e h = subst (λ (o : Option Row). IsOrigin o origin) (sym (row_at-before origin.number rows more first e)) h

-- so have all that an item names
pub have_begun-before : (rows more : List Row) (origins : List Origin) → HasOrigins rows origins → HasOrigins (rows ++ more) origins
have_begun-before rows more [] h = tt
have_begun-before rows more (origin ∷ origins) h =
    (has_begun_still rows more origin h.0, have_begun-before rows more origins h.1)

-- an object that has begun among rows is no later one
pub origin_within : (rows : List Row) (origin : Origin) → IsOrigin (row_at origin.number rows) origin → origin.number ≤ length rows
origin_within rows origin h = at (row_at origin.number rows) refl h
  where
    at : (o : Option Row) → row_at origin.number rows ≡ o → IsOrigin o origin → origin.number ≤ length rows
    at None e h = absurd h
    at (Some first) e h = (row_at_within origin.number rows first e).1

-- a row that may follow is of the object that its number begins, which is what another item names
pub has_begun_origin : (found : Option Row) (row : Row) → HasBegun found row
    → IsOrigin found (record { kind = kind_of row.item; number = row.object })
has_begun_origin None row h = absurd h
has_begun_origin (Some first) row h = record { object = h.object; kind = h.kind }
