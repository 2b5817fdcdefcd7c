-- Which calls are the same: method, path and form are equal.
use Rattle.std.specs.Prelude.{◌&&◌, Bool, List, bytes_eq}
use Rattle.std.specs.Cmp.Lexicographic.{pointwise}
use Rattle.ph_form.specs.declared.leaf.Leaf.{Leaf}
use Rattle.ph_idem.specs.declared.shape.Shape.{Shape}

abbrev pub is_same_leaf : Leaf → Leaf → Bool
is_same_leaf one other = bytes_eq one.name other.name && bytes_eq one.text other.text

-- two forms have the same leaves: both stand in the order of their names
abbrev pub is_same_form : List Leaf → List Leaf → Bool
is_same_form one other = pointwise is_same_leaf one other

abbrev pub is_same_shape : Shape → Shape → Bool
is_same_shape one other = (bytes_eq one.method other.method && bytes_eq one.path other.path) && is_same_form one.tree other.tree
