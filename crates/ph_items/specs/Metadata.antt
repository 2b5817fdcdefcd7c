-- Metadata: pairs in byte order of their names, each name once.
use Rattle.std.specs.Prelude.{ℕ, Bool, true, ◌&&◌, not, List, [], ◌∷◌}
use Rattle.std.specs.List.{filter}
use Rattle.std.specs.Ordering.{nat_cmp, is_lt}
use Rattle.std.specs.Str.{bytes_eq}
use Rattle.std.specs.Cmp.Lexicographic.{slice_cmp}
use Rattle.std.specs.declared.cmp.Ordering.{Ordering}
use Rattle.std.specs.declared.cmp.Ordering.TheVariants.{Less, Equal, Greater}
use Rattle.ph_items.specs.declared.metadata_pairs.MetadataPair.{MetadataPair}

-- how two names stand in byte order
abbrev pub name_cmp : List ℕ → List ℕ → Ordering
name_cmp first second = slice_cmp nat_cmp first second

-- the name stands before the names of all the pairs
abbrev pub is_before : List ℕ → List MetadataPair → Bool
is_before name [] = true
is_before name (pair ∷ pairs) = is_lt (name_cmp name pair.key)

-- each name stands before the next one
abbrev pub are_ordered : List MetadataPair → Bool
are_ordered [] = true
are_ordered (pair ∷ pairs) = is_before pair.key pairs && are_ordered pairs

-- a pair beside the one in front of the others, by how their names stand: before it, in its place, or further on
abbrev pub placed_pair : Ordering → MetadataPair → MetadataPair → List MetadataPair → List MetadataPair
    → List MetadataPair
placed_pair Less new pair pairs further = new ∷ pair ∷ pairs
placed_pair Equal new pair pairs further = new ∷ pairs
placed_pair Greater new pair pairs further = pair ∷ further

-- the pairs with one more, which takes the place of the pair of its name
abbrev pub with_pair : MetadataPair → List MetadataPair → List MetadataPair
with_pair new [] = new ∷ []
with_pair new (pair ∷ pairs) = placed_pair (name_cmp new.key pair.key) new pair pairs (with_pair new pairs)

-- the pairs but the one of a name
abbrev pub without_pair : List ℕ → List MetadataPair → List MetadataPair
without_pair name pairs = filter (λ pair. not (bytes_eq pair.key name)) pairs
