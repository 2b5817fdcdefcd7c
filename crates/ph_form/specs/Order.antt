-- Named texts in byte order of their names.
use Rattle.std.specs.Prelude.{◌≡◌, ◌&&◌, Bool, true, List, [], ◌∷◌, map}
use Rattle.std.specs.Ordering.{match_ordering, nat_cmp}
use Rattle.std.specs.Cmp.Lexicographic.{slice_cmp}
use Rattle.std.specs.List.{list_all}
use Rattle.std.specs.Str.{is_utf8}
use Rattle.std.specs.List.Sorted.{IsStrictlySortedBy}
use Rattle.ph_form.specs.declared.leaf.Leaf.{Leaf}

-- the list with this leaf at its place, instead of one with the same name
abbrev pub put : Leaf → List Leaf → List Leaf
put leaf [] = leaf ∷ []
put leaf (other ∷ leaves) =
    match_ordering (slice_cmp nat_cmp leaf.name other.name) (leaf ∷ other ∷ leaves) (leaf ∷ leaves) (other ∷ put leaf leaves)

-- each name stands before those after it
abbrev pub IsInOrder : List Leaf → Type 0
IsInOrder leaves = IsStrictlySortedBy (slice_cmp nat_cmp) (map (λ leaf. leaf.name) leaves)

-- the leaves so far, with these put among them in turn
abbrev pub put_all : List Leaf → List Leaf → List Leaf
put_all so_far [] = so_far
put_all so_far (leaf ∷ leaves) = put_all (put leaf so_far) leaves

-- the name and the text are UTF-8
abbrev pub is_leaf_utf8 : Leaf → Bool
is_leaf_utf8 leaf = is_utf8 leaf.name && is_utf8 leaf.text

-- leaves stand in byte order of their names, and all of it is UTF-8
pub record IsWhole (leaves : List Leaf) : Type 0 where
  pub order : IsInOrder leaves
  pub utf8 : list_all is_leaf_utf8 leaves ≡ true
