-- What a reading keeps beside its leaves: which names are maps, and from which number on each map looks for a free one.
use Rattle.std.specs.Prelude.{◌≡◌, ℕ, ◌<◌, ◌≤◌, Bool, true, false, List, map, length, is_some, unwrap_or, Vec, Option, Some, bytes_eq, if◌then◌else◌}
use Rattle.std.specs.declared.alloc.Global.{Global}
use Rattle.std.specs.Ordering.{nat_cmp}
use Rattle.std.specs.Cmp.Lexicographic.{slice_cmp}
use Rattle.std.specs.List.{list_all, list_any}
use Rattle.std.specs.BTreeMap.{BTreeMap, get_by}
use Rattle.ph_form.specs.declared.leaf.Leaf.{Leaf}
use Rattle.ph_form.specs.declared.reading.Reading.{Reading}
use Rattle.ph_form.specs.Entries.{leaf_of}
use Rattle.ph_form.specs.Names.{is_below}
use Rattle.ph_form.specs.Leaves.{is_free}
use Rattle.ph_form.specs.Order.{is_leaf_utf8}

-- what a map that is keyed by names has at this one
abbrev pub at_name : {X : Type 0} → BTreeMap (Vec ℕ Global) X → List ℕ → Option X
at_name m name = get_by (λ key. slice_cmp nat_cmp name key.items) m

-- the leaves so far
abbrev pub leaves_in : Reading → List Leaf
leaves_in reading = map leaf_of reading.leaves.entries

-- a leaf so far lies below this name
abbrev pub has_map : Reading → List ℕ → Bool
has_map reading name = is_some (at_name reading.maps name)

-- the number from which on a free one is looked for below this name
abbrev pub next_of : Reading → List ℕ → ℕ
next_of reading name = unwrap_or (at_name reading.maps name) 0

-- the new map has this number at the name, and else what the old one has
abbrev pub IsSet : BTreeMap (Vec ℕ Global) ℕ → BTreeMap (Vec ℕ Global) ℕ → List ℕ → ℕ → Type 0
IsSet old new name n = (q : List ℕ) → at_name new q ≡ (if bytes_eq q name then Some n else at_name old q)

-- no number in front of this one is free
abbrev pub AreTaken : List Leaf → List ℕ → ℕ → Type 0
AreTaken leaves beginning n = (m : ℕ) → m < n → is_free leaves beginning m ≡ false

-- the maps are the names that have a leaf below, and the numbers in front of a map's next one are taken; all of it is UTF-8
pub record IsIndex (reading : Reading) : Type 0 where
  pub maps : (name : List ℕ) → has_map reading name ≡ list_any (λ leaf. is_below name leaf.name) (leaves_in reading)
  pub taken : (name : List ℕ) → AreTaken (leaves_in reading) name (next_of reading name)
  pub small : (name : List ℕ) → next_of reading name ≤ length (leaves_in reading)
  pub utf8 : list_all is_leaf_utf8 (leaves_in reading) ≡ true
