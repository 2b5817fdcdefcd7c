-- Sound rows.
use Rattle.std.proofs.Common.{◌≡◌, ℕ, ◌≤◌, List, [], ◌++◌, Some, subst}
use Rattle.ph_items.specs.Clocks.{clock_limit}
use Rattle.ph_rows.specs.declared.rows.Row.{Row}
use Rattle.ph_rows.specs.Rows.{row_at, latest_of}
use Rattle.ph_rows.specs.Views.{ViewState}
use Rattle.ph_facts.specs.Order.{AllMayFollow, HasBegun}
use Rattle.ph_facts.specs.Sound.{IsSound, KeepLaws}
use Rattle.ph_facts.proofs.OrderLemmas.{latest_of_order, order_empty, order_later, order_with_all}

-- no rows keep the laws
laws_empty : KeepLaws []
laws_empty = record {
  captured = λ object row amount e said. absurd (cc);
  refunded = λ object row amount e said. absurd (cc);
  transferred = λ object row amount e said. absurd (cc);
  reversed = λ object row amount e said. absurd (cc);
  given_back = λ object row amount e said. absurd (cc);
  moved = λ object row amount e said. absurd (cc);
  held = λ object row intent e is waits. absurd (cc);
}

-- no rows are sound at each time that a clock shows
pub sound_empty : (time : ℕ) → time ≤ clock_limit → IsSound (record { time = time; rows = [] })
sound_empty time clock = record { order = order_empty time clock; laws = laws_empty }

-- a sound view stays sound at a later time
pub sound_later : (state : ViewState) (now : ℕ) → IsSound state → state.time ≤ now → now ≤ clock_limit → IsSound (record state { time = now })
sound_later state now sound later clock = record { order = order_later state now sound.order later clock; laws = sound.laws }

-- a sound view stays sound with the rows of an entry: they may follow one another, and with them the rows keep the laws
pub sound_with_all : (state : ViewState) (rows : List Row) → IsSound state → AllMayFollow state rows
    → KeepLaws (state.rows ++ rows) → IsSound (record state { rows = state.rows ++ rows })
sound_with_all state rows sound follow laws = record { order = order_with_all state rows sound.order follow; laws = laws }

-- the same among sound rows
pub latest_of_sound : (state : ViewState) (object : ℕ) (row : Row) → IsSound state
    → latest_of object state.rows ≡ Some row → (row_at row.place state.rows ≡ Some row) × (row.object ≡ object)
latest_of_sound state object row sound e = latest_of_order state object row sound.order e

-- the present version of an object is one of the object that its number begins
pub latest_has_begun : (state : ViewState) (object : ℕ) (row : Row) → IsSound state → latest_of object state.rows ≡ Some row
    → HasBegun (row_at object state.rows) row
latest_has_begun state object row sound e =
    let found : (row_at row.place state.rows ≡ Some row) × (row.object ≡ object) = latest_of_sound state object row sound e in
    subst (λ o. HasBegun (row_at o state.rows) row) found.1 (sound.order.begun row.place row found.0)
