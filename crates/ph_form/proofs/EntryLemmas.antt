-- The entries of a map, leaf by leaf, and equal lists of leaves.
use Rattle.std.proofs.Common.{◌≡◌, ℕ, zero, suc, ◌+◌, ◌<◌, ◌&&◌, Bool, true, false, List, [], ◌∷◌, length, drop, get_or, None, refl, sym, ◌∙◌, ap, bytes_eq, IsTrue, arith}
use Rattle.std.specs.Cmp.Lexicographic.{pointwise, bytes_decides}
use Rattle.std.specs.List.{list_all}
use Rattle.std.proofs.lemmas.List.{drop_more}
use Rattle.std.proofs.lemmas.Str.{IsUtf8-from_is_utf8}
use Rattle.std.specs.Str.{IsUtf8, is_utf8}
use lib.Pointwise.{pointwise_decides}
use Rattle.ph_form.specs.declared.leaf.Leaf.{Leaf}
use Rattle.ph_form.specs.Names.{is_below}
use Rattle.ph_form.specs.Order.{is_leaf_utf8, put}
use Rattle.ph_form.specs.Readers.{entries_with, entry_of, is_child}
use Rattle.ph_form.proofs.MapLemmas.{first_of_all, rest_of_all}

-- a leaf that doesn't lie below the name
pub entries_skip : (so_far : List Leaf) (name : List ℕ) (leaves : List Leaf) (i : ℕ) (leaf : Leaf) → i < length leaves → leaf ≡ get_or leaves i leaf
    → is_below name leaf.name ≡ false → entries_with so_far name (drop i leaves) ≡ entries_with so_far name (drop (i + 1) leaves)
entries_skip so_far name leaves i leaf h e b = rw (drop_more leaves i leaf h, ← e, b) refl

-- a leaf that is an entry
pub entries_take : (so_far : List Leaf) (name : List ℕ) (leaves : List Leaf) (i : ℕ) (leaf : Leaf) → i < length leaves → leaf ≡ get_or leaves i leaf
    → is_below name leaf.name ≡ true → is_child name leaf.name ≡ true
    → entries_with so_far name (drop i leaves) ≡ entries_with (put (entry_of name leaf) so_far) name (drop (i + 1) leaves)
entries_take so_far name leaves i leaf h e b c = rw (drop_more leaves i leaf h, ← e, b, c) refl

-- a leaf that lies deeper
pub entries_stop : (so_far : List Leaf) (name : List ℕ) (leaves : List Leaf) (i : ℕ) (leaf : Leaf) → i < length leaves → leaf ≡ get_or leaves i leaf
    → is_below name leaf.name ≡ true → is_child name leaf.name ≡ false → entries_with so_far name (drop i leaves) ≡ None
entries_stop so_far name leaves i leaf h e b c = rw (drop_more leaves i leaf h, ← e, b, c) refl

-- each leaf of UTF-8 is
pub utf8_at : (leaves : List Leaf) (i : ℕ) (leaf : Leaf) → list_all is_leaf_utf8 leaves ≡ true → i < length leaves → leaf ≡ get_or leaves i leaf → is_leaf_utf8 leaf ≡ true
utf8_at [] i leaf u h e = absurd (omega arith)
utf8_at (x ∷ leaves) zero leaf u h e = rw e (first_of_all (is_leaf_utf8 x) (list_all is_leaf_utf8 leaves) u)
utf8_at (x ∷ leaves) (suc i) leaf u h e = utf8_at leaves i leaf (rest_of_all (is_leaf_utf8 x) (list_all is_leaf_utf8 leaves) u) (omega arith) e

-- each text of UTF-8 is
pub text_utf8_at : (leaves : List Leaf) (i : ℕ) (leaf : Leaf) → list_all is_leaf_utf8 leaves ≡ true → i < length leaves → leaf ≡ get_or leaves i leaf → IsUtf8 leaf.text
text_utf8_at leaves i leaf u h e = IsUtf8-from_is_utf8 leaf.text (rest_of_all (is_utf8 leaf.name) (is_utf8 leaf.text) (utf8_at leaves i leaf u h e))

abbrev same_leaf : Leaf → Leaf → Bool
same_leaf x y = bytes_eq x.name y.name && bytes_eq x.text y.text

both_here : (s t : Bool) → s ≡ true → t ≡ true → (s && t) ≡ true
both_here true t s h = h
both_here false t s h = s

leaves_decide : (x y : Leaf) → (same_leaf x y ≡ true → x ≡ y) × (x ≡ y → same_leaf x y ≡ true)
leaves_decide x y = (
  (λ h.
      let n : x.name ≡ y.name = (bytes_decides x.name y.name).0 (first_of_all (bytes_eq x.name y.name) (bytes_eq x.text y.text) h) in
      let t : x.text ≡ y.text = (bytes_decides x.text y.text).0 (rest_of_all (bytes_eq x.name y.name) (bytes_eq x.text y.text) h) in
      λ i. record { name = n i; text = t i }),
  (λ e. both_here (bytes_eq x.name y.name) (bytes_eq x.text y.text)
      ((bytes_decides x.name y.name).1 (ap (λ (l : Leaf). l.name) e)) ((bytes_decides x.text y.text).1 (ap (λ (l : Leaf). l.text) e))),
)

-- a test that answers for each pair of leaves tells whether the lists are the same
pub same_leaves : (b : Bool) (xs ys : List Leaf) → b ≡ pointwise same_leaf xs ys → (IsTrue b → xs ≡ ys) × (xs ≡ ys → IsTrue b)
same_leaves b xs ys e = ((λ t. (pointwise_decides leaves_decide xs ys).0 (sym e ∙ t)), (λ s. e ∙ (pointwise_decides leaves_decide xs ys).1 s))
