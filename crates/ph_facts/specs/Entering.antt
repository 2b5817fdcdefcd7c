-- The batches that may be entered after sound rows, which stay sound.
use Rattle.std.specs.Prelude.{◌≡◌, ℕ, ◌+◌, ◌^◌, ◌<◌, true, List, [], ◌∷◌, ◌++◌, Option, None, Some, length}
use Rattle.std.specs.List.{list_all}
use Rattle.std.specs.Str.{is_utf8}
use Rattle.ph_rows.specs.declared.rows.Row.{Row}
use Rattle.ph_items.specs.declared.event_kinds.EventKind.{EventKind}
use Rattle.ph_rows.specs.declared.batches.Announced.{Announced}
use Rattle.ph_rows.specs.Batches.{BatchState, made_rows}
use Rattle.ph_items.specs.Kinds.{kind_of}
use Rattle.ph_rows.specs.Rows.{latest_of}
use Rattle.ph_items.specs.Weights.{with_text}
use Rattle.ph_facts.specs.Order.{AllMayFollow}
use Rattle.ph_facts.specs.Sound.{IsSound, KeepLaws}
use Rattle.ph_rows.specs.Views.{ViewState}
use Rattle.ph_items.specs.Words.{subject_of}

-- an event of this type may tell of the object of a row, and there is one
abbrev pub IsToldBy : Option Row → EventKind → Type 0
IsToldBy None sort = ⊥
IsToldBy (Some row) sort = kind_of row.item ≡ subject_of sort

-- what is announced tells of objects with these rows
abbrev pub AreTold : List Row → List Announced → Type 0
AreTold rows [] = Unit {0}
AreTold rows (told ∷ announced) = IsToldBy (latest_of told.object rows) told.sort × AreTold rows announced

-- a batch may be entered after a sound view: it began there, its rows may follow one another, with all of them the rows keep
-- the laws, and its events tell of them
pub record MayBeEntered (state : ViewState) (batch : BatchState) : Type 0 where
  pub began : batch.began ≡ length state.rows
  pub at : batch.at ≡ state.time
  pub follow : AllMayFollow state batch.rows
  pub laws : KeepLaws (state.rows ++ batch.rows)
  pub told : AreTold batch.rows batch.announced

-- sound rows stay sound with a batch that may be entered and the events that it announces, under a key that is UTF-8, where
-- sixteen digits number them all
abbrev pub StaysSound : Type 0
StaysSound =
    (state : ViewState) (key : Option (List ℕ)) (batch : BatchState) → IsSound state → MayBeEntered state batch
    → list_all is_utf8 (with_text key []) ≡ true → length state.rows + length (made_rows key batch) < 10 ^ 16
    → IsSound (record state { rows = state.rows ++ made_rows key batch })
