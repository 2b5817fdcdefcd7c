-- The entries of a map that is keyed by names, as leaves.
use Rattle.std.specs.Prelude.{ℕ, Vec}
use Rattle.std.specs.declared.alloc.Global.{Global}
use Rattle.ph_form.specs.declared.leaf.Leaf.{Leaf}

-- an entry as a leaf
abbrev pub leaf_of : Vec ℕ Global × Vec ℕ Global → Leaf
leaf_of entry = record { name = entry.0.items; text = entry.1.items }
