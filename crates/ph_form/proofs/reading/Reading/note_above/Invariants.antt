use Rattle.std.proofs.Common.{◌≡◌, ◌||◌, ℕ, List, take}
use Rattle.ph_form.specs.Index.{has_map, next_of}
use Rattle.ph_form.specs.Names.{is_below}
use Rattle.ph_form.proofs.reading.Reading.note_above.Given as goal

abbrev pub invariant-loop-i : goal.invariant-loop-i
invariant-loop-i l =
    (l.self.leaves ≡ l.fn.self.leaves)
    × ((q : List ℕ) → has_map l.self q ≡ (has_map l.fn.self q || is_below q (take l.i l.name)))
    × ((q : List ℕ) → next_of l.self q ≡ next_of l.fn.self q)
