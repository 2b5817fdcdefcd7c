-- Leaves of UTF-8 have names and texts of UTF-8.
use Rattle.std.proofs.Common.{◌≡◌, ℕ, zero, suc, ◌<◌, ◌&&◌, Bool, true, false, List, [], ◌∷◌, length, get_or, refl, arith}
use Rattle.std.specs.List.{list_all}
use Rattle.std.specs.Str.{IsUtf8, is_utf8}
use Rattle.std.proofs.lemmas.Str.{IsUtf8-from_is_utf8}
use Rattle.ph_form.specs.declared.leaf.Leaf.{Leaf}
use Rattle.ph_form.specs.Order.{is_leaf_utf8}

first_of_all : (s t : Bool) → (s && t) ≡ true → s ≡ true
first_of_all true t h = refl
first_of_all false t h = h

rest_of_all : (s t : Bool) → (s && t) ≡ true → t ≡ true
rest_of_all true t h = h
rest_of_all false t h = absurd (let wrong : false ≡ true = h in cc)

-- each leaf of UTF-8 leaves is
pub utf8_at : (leaves : List Leaf) (i : ℕ) (leaf : Leaf) → list_all is_leaf_utf8 leaves ≡ true → i < length leaves → leaf ≡ get_or leaves i leaf → is_leaf_utf8 leaf ≡ true
utf8_at [] i leaf u h e = absurd (omega arith)
utf8_at (x ∷ leaves) zero leaf u h e = rw e (first_of_all (is_leaf_utf8 x) (list_all is_leaf_utf8 leaves) u)
utf8_at (x ∷ leaves) (suc i) leaf u h e = utf8_at leaves i leaf (rest_of_all (is_leaf_utf8 x) (list_all is_leaf_utf8 leaves) u) (omega arith) e

-- its name is
pub utf8_name : (leaf : Leaf) → is_leaf_utf8 leaf ≡ true → IsUtf8 leaf.name
utf8_name leaf h = IsUtf8-from_is_utf8 leaf.name (first_of_all (is_utf8 leaf.name) (is_utf8 leaf.text) h)

-- its text is
pub utf8_text : (leaf : Leaf) → is_leaf_utf8 leaf ≡ true → IsUtf8 leaf.text
utf8_text leaf h = IsUtf8-from_is_utf8 leaf.text (rest_of_all (is_utf8 leaf.name) (is_utf8 leaf.text) h)
