-- A form that was read has no leaf below another.
use Rattle.std.proofs.Common.{◌≡◌, ℕ, ◌+◌, ◌&&◌, ◌||◌, ◌==◌, nat_lt, Bool, true, false, cond, List, [], ◌∷◌, length, Option, Some, None, Result, Ok, Err, IfOk, refl, sym, ◌∙◌, subst, bytes_eq}
use Rattle.std.specs.List.{list_any}
use Rattle.ph_form.specs.declared.leaf.Leaf.{Leaf}
use Rattle.ph_form.specs.declared.fault.FormFault.{FormFault}
use Rattle.ph_form.specs.declared.fault.FormFault.TheVariants.{BadName, Clash, TooDeep}
use Rattle.ph_form.specs.Leaves.{added, added_under, clashes, filled, is_tree, leaves_from, leaves_of}
use Rattle.ph_form.specs.Names.{base_of, is_below, is_within, keys_of}
use Rattle.ph_form.specs.Order.{put}
use Rattle.ph_form.specs.Pairs.{pairs_in}
use Rattle.ph_form.proofs.IndexLemmas.{any_above, any_or, any_within}
use Rattle.ph_form.proofs.MapLemmas.{any_put}

none_below_self : (name : List ℕ) → is_below name name ≡ false
none_below_self [] = refl
none_below_self (c ∷ name) = at (c == c) (none_below_self name)
  where
    at : (s : Bool) → is_below name name ≡ false → (s && is_below name name) ≡ false
    at true h = h
    at false h = refl

any_alike : (p q : Leaf → Bool) (leaves : List Leaf) → ((leaf : Leaf) → p leaf ≡ q leaf) → list_any p leaves ≡ list_any q leaves
any_alike p q [] same = refl
any_alike p q (leaf ∷ leaves) same = rw (same leaf, any_alike p q leaves same) refl

left_false : (s t : Bool) → (s || t) ≡ false → s ≡ false
left_false true t h = h
left_false false t h = refl

right_false : (s t : Bool) → (s || t) ≡ false → t ≡ false
right_false true t h = absurd (let wrong : true ≡ false = h in cc)
right_false false t h = h

-- some leaf lies below the name
abbrev holds : List ℕ → List Leaf → Bool
holds name leaves = list_any (λ leaf. is_below name leaf.name) leaves

-- some leaf lies below another
abbrev nests : List Leaf → Bool
nests leaves = list_any (λ upper. holds upper.name leaves) leaves

-- a leaf that clashes with none leaves none below another
put_nests : (leaf : Leaf) (leaves : List Leaf) → clashes leaves leaf.name ≡ false → nests leaves ≡ false → nests (put leaf leaves) ≡ false
put_nests leaf leaves apart none =
    any_put (λ name. holds name (put leaf leaves)) leaf leaves
    ∙ rw (
      any_put (is_below leaf.name) leaf leaves,
      none_below_self leaf.name,
      below,
      any_alike (λ upper. holds upper.name (put leaf leaves)) (λ upper. is_below upper.name leaf.name || holds upper.name leaves) leaves (λ upper. any_put (is_below upper.name) leaf leaves),
      any_or (λ (upper : Leaf). is_below upper.name leaf.name) (λ upper. holds upper.name leaves) leaves,
      above,
      none,
    ) refl
  where
    within : list_any (λ l. is_within leaf.name l.name) leaves ≡ false
    within = left_false (list_any (λ (l : Leaf). is_within leaf.name l.name) leaves) (list_any (λ (l : Leaf). is_within l.name leaf.name) leaves) apart

    around : list_any (λ l. is_within l.name leaf.name) leaves ≡ false
    around = right_false (list_any (λ (l : Leaf). is_within leaf.name l.name) leaves) (list_any (λ (l : Leaf). is_within l.name leaf.name) leaves) apart

    below : holds leaf.name leaves ≡ false
    below = right_false (list_any (λ (l : Leaf). bytes_eq leaf.name l.name) leaves) (holds leaf.name leaves) (sym (any_within leaf.name leaves) ∙ within)

    above : list_any (λ upper. is_below upper.name leaf.name) leaves ≡ false
    above = right_false (list_any (λ (l : Leaf). bytes_eq leaf.name l.name) leaves) (list_any (λ (upper : Leaf). is_below upper.name leaf.name) leaves) (sym (any_above leaf.name leaves) ∙ around)

abbrev NoneNests : Result (List Leaf) FormFault → Type 0
NoneNests (Ok leaves) = nests leaves ≡ false
NoneNests (Err fault) = Unit {0}

placed_nests : (b : Bool) (place : ℕ) (leaf : Leaf) (leaves : List Leaf) → clashes leaves leaf.name ≡ b → nests leaves ≡ false
    → NoneNests (cond b (Err (Clash place)) (Ok (put leaf leaves)))
placed_nests true place leaf leaves e none = tt
placed_nests false place leaf leaves e none = put_nests leaf leaves e none

named_nests : (s t : Bool) (place : ℕ) (more : Result (List Leaf) FormFault) → NoneNests more
    → NoneNests (cond s (Err (BadName place)) (cond t (Err (TooDeep place)) more))
named_nests true t place more h = tt
named_nests false true place more h = tt
named_nests false false place more h = h

added_nests : (place : ℕ) (leaves : List Leaf) (base : List ℕ) (keys : Option (List (List ℕ))) (text : List ℕ) → nests leaves ≡ false
    → NoneNests (added_under place leaves base keys text)
added_nests place leaves base None text none = tt
added_nests place leaves base (Some keys) text none =
    named_nests (length base == 0) (nat_lt 4 (length keys)) place _
    (placed_nests (clashes leaves (filled leaves base keys)) place (record { name = filled leaves base keys; text = text }) leaves refl none)

from_nests : (place : ℕ) (so_far : Result (List Leaf) FormFault) (pairs : List (List ℕ × List ℕ)) → NoneNests so_far → NoneNests (leaves_from place so_far pairs)
from_nests place (Err fault) pairs h = tt
from_nests place (Ok leaves) [] h = h
from_nests place (Ok leaves) (pair ∷ pairs) h =
    from_nests (place + 1) (added place leaves pair) pairs (added_nests place leaves (base_of pair.0) (keys_of pair.0) pair.1 h)

-- a form that was read is a tree
pub tree_read : (query body : List ℕ) (r : Result (List Leaf) FormFault) → IfOk r (λ form. leaves_of (pairs_in query body) ≡ Ok form)
    → IfOk r (λ form. is_tree form ≡ true)
tree_read query body (Err fault) h = tt
tree_read query body (Ok form) h =
    let none : NoneNests (Ok form) = subst NoneNests h (from_nests 0 (Ok []) (pairs_in query body) refl) in
    rw none refl
