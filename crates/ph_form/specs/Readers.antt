-- What stands in a form.
use Rattle.std.specs.Prelude.{ℕ, ◌+◌, Bool, if◌then◌else◌, List, [], ◌∷◌, length, map, filter, find, drop, bytes_eq, Option, Some, None, option_map}
use Rattle.std.specs.List.{list_any, list_all}
use Rattle.ph_form.specs.declared.leaf.Leaf.{Leaf}
use Rattle.ph_form.specs.declared.node.Node.{Node}
use Rattle.ph_form.specs.declared.node.Node.TheVariants.{Absent, Text, Map}
use Rattle.ph_form.specs.Names.{base_of, is_below, tail_of}
use Rattle.ph_form.specs.Order.{put_all}

-- the text under a name
abbrev pub text_at : List ℕ → List Leaf → Option (List ℕ)
text_at name leaves = option_map (λ leaf. leaf.text) (find (λ leaf. bytes_eq leaf.name name) leaves)

-- the leaves below a name
abbrev pub below : List ℕ → List Leaf → List Leaf
below name leaves = filter (λ leaf. is_below name leaf.name) leaves

-- a leaf lies below a name
abbrev pub has_below : List ℕ → List Leaf → Bool
has_below name leaves = list_any (λ leaf. is_below name leaf.name) leaves

-- what stands at a name: its text, a map of what lies below it, or nothing
abbrev pub node_at : List ℕ → List Leaf → Node
node_at name leaves =
    if list_any (λ leaf. bytes_eq leaf.name name) leaves then Text
    else (if has_below name leaves then Map else Absent)

-- what follows a name and its `[` in a longer one
abbrev pub rest_after : List ℕ → List ℕ → List ℕ
rest_after upper name = drop (length upper + 1) name

-- the longer name has one key more, and ends with it
abbrev pub is_child : List ℕ → List ℕ → Bool
is_child upper name = bytes_eq (tail_of (rest_after upper name)) (93 ∷ [])

-- a leaf, named by the key that follows a name in its own
abbrev pub entry_of : List ℕ → Leaf → Leaf
entry_of upper leaf = record { name = base_of (rest_after upper leaf.name); text = leaf.text }

-- the entries so far and those of the map at a name, in byte order of their keys; none where one is a map itself
abbrev pub entries_with : List Leaf → List ℕ → List Leaf → Option (List Leaf)
entries_with so_far name leaves =
    if list_all (λ leaf. is_child name leaf.name) (below name leaves)
    then Some (put_all so_far (map (entry_of name) (below name leaves))) else None

-- the entries of the map at a name, in byte order of their keys; none where one is a map itself
abbrev pub entries_at : List ℕ → List Leaf → Option (List Leaf)
entries_at name leaves = entries_with [] name leaves
