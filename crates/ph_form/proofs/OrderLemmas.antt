-- Leaves in byte order of their names.
use Rattle.std.proofs.Common.{◌≡◌, ℕ, List, [], ◌∷◌, map, Vec}
use Rattle.std.specs.declared.alloc.Global.{Global}
use Rattle.std.specs.declared.cmp.Ordering.TheVariants.{Less}
use Rattle.std.specs.Ordering.{nat_cmp}
use Rattle.std.specs.Cmp.Lexicographic.{slice_cmp}
use Rattle.std.specs.List.{AllByRecursion}
use Rattle.std.specs.List.Sorted.{IsStrictlySortedBy}
use Rattle.ph_form.specs.declared.leaf.Leaf.{Leaf}
use Rattle.ph_form.specs.Entries.{leaf_of}
use Rattle.ph_form.specs.Order.{IsInOrder}
use Rattle.ph_form.proofs.MapLemmas.{key_cmp}

all_after : (k : Vec ℕ Global) (entries : List (Vec ℕ Global × Vec ℕ Global))
    → AllByRecursion (λ key. key_cmp k key ≡ Less) (map (λ e. e.0) entries)
    → AllByRecursion (λ name. slice_cmp nat_cmp k.items name ≡ Less) (map (λ (leaf : Leaf). leaf.name) (map leaf_of entries))
all_after k [] h = tt
all_after k (e ∷ entries) h = (h.0, all_after k entries h.1)

-- entries whose keys ascend are leaves in order
pub entries_in_order : (entries : List (Vec ℕ Global × Vec ℕ Global)) → IsStrictlySortedBy key_cmp (map (λ e. e.0) entries) → IsInOrder (map leaf_of entries)
unfolding IsStrictlySortedBy
entries_in_order [] h = tt
entries_in_order (e ∷ entries) h = (all_after e.0 entries h.0, entries_in_order entries h.1)
