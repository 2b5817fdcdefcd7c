-- What the look-ups of a reading say of its leaves.
use Rattle.std.proofs.Common.{◌≡◌, ℕ, ◌+◌, ◌<◌, ◌&&◌, ◌||◌, ◌==◌, Bool, true, false, cond, List, [], ◌∷◌, ◌++◌, length, map, take, drop, slice_index, ◌≤◌, Option, Some, Vec, refl, sym, ◌∙◌, ap, bytes_eq, is_some}
use Rattle.std.specs.declared.alloc.Global.{Global}
use Rattle.std.specs.Ordering.{is_eq, nat_cmp}
use Rattle.std.specs.Cmp.Lexicographic.{slice_cmp, nat_list_eq_equiv}
use Rattle.std.specs.List.{list_any}
use Rattle.std.specs.Map.{lookup}
use Rattle.std.proofs.lemmas.List.{drop_all, drop_more, take_more}
use Rattle.std.proofs.lemmas.Map.Text.{is_eq-slice_cmp}
use Rattle.ph_form.specs.declared.leaf.Leaf.{Leaf}
use Rattle.ph_form.specs.Entries.{leaf_of}
use Rattle.ph_form.specs.Names.{is_below, is_within}

-- a text stands under a name where a leaf has that name
pub text_here : (name : List ℕ) (entries : List (Vec ℕ Global × Vec ℕ Global))
    → is_some (lookup (λ key. is_eq (slice_cmp nat_cmp name key.items)) entries) ≡ list_any (λ leaf. bytes_eq name leaf.name) (map leaf_of entries)
text_here name [] = refl
text_here name (e ∷ entries) = rw is_eq-slice_cmp (at (bytes_eq name e.0.items) _ _ (text_here name entries))
  where
    at : (b : Bool) (r : Option (Vec ℕ Global)) (s : Bool) → is_some r ≡ s → is_some (cond b (Some e.1) r) ≡ (b || s)
    at true r s h = refl
    at false r s h = h

or_or : (a b c d : Bool) → ((a || b) || (c || d)) ≡ ((a || c) || (b || d))
or_or true b c d = refl
or_or false true true d = refl
or_or false true false d = refl
or_or false false c d = refl

-- some element passes either test
pub any_or : {X : Type 0} (p q : X → Bool) (xs : List X) → list_any (λ x. p x || q x) xs ≡ (list_any p xs || list_any q xs)
any_or p q [] = refl
any_or p q (x ∷ xs) = rw (any_or p q xs) (or_or (p x) (q x) (list_any p xs) (list_any q xs))

-- a leaf within a name has it or lies below it
pub any_within : (name : List ℕ) (leaves : List Leaf)
    → list_any (λ leaf. is_within name leaf.name) leaves
    ≡ (list_any (λ leaf. bytes_eq name leaf.name) leaves || list_any (λ leaf. is_below name leaf.name) leaves)
any_within name leaves = any_or (λ (leaf : Leaf). bytes_eq name leaf.name) (λ leaf. is_below name leaf.name) leaves

bytes_eq_sym : (xs ys : List ℕ) → bytes_eq xs ys ≡ bytes_eq ys xs
bytes_eq_sym xs ys = nat_list_eq_equiv.symm xs ys

-- a leaf has a name, either way round
pub any_same : (name : List ℕ) (leaves : List Leaf) → list_any (λ leaf. bytes_eq leaf.name name) leaves ≡ list_any (λ leaf. bytes_eq name leaf.name) leaves
any_same name [] = refl
any_same name (leaf ∷ leaves) = rw (any_same name leaves, bytes_eq_sym leaf.name name) refl

-- a name is within a leaf's where a leaf has it or lies above it
pub any_above : (name : List ℕ) (leaves : List Leaf)
    → list_any (λ leaf. is_within leaf.name name) leaves
    ≡ (list_any (λ leaf. bytes_eq name leaf.name) leaves || list_any (λ leaf. is_below leaf.name name) leaves)
any_above name leaves =
    any_or (λ (leaf : Leaf). bytes_eq leaf.name name) (λ leaf. is_below leaf.name name) leaves
    ∙ ap (λ b. b || list_any (λ (leaf : Leaf). is_below leaf.name name) leaves) (any_same name leaves)

or_false : (t : Bool) → t ≡ (t || false)
or_false true = refl
or_false false = refl

and_or : (t x y z : Bool) → (t && (x || (y && z))) ≡ ((t && x) || ((t && y) && z))
and_or true x y z = refl
and_or false x y z = refl

nothing_below : (t : Bool) (upper : List ℕ) → (t && is_below upper []) ≡ false
nothing_below true [] = refl
nothing_below true (x ∷ upper) = refl
nothing_below false upper = refl

-- one byte more: a name lies below what ends before a `[`
pub below_more : (upper name : List ℕ) (b : ℕ) → is_below upper (name ++ b ∷ []) ≡ (is_below upper name || (bytes_eq upper name && (b == 91)))
below_more [] [] b = refl
below_more [] (c ∷ name) b = or_false (c == 91)
below_more (u ∷ upper) [] b = nothing_below (u == b) upper
below_more (u ∷ upper) (c ∷ name) b = rw (below_more upper name b) (and_or (u == c) (is_below upper name) (bytes_eq upper name) (b == 91))

any_and : (b : Bool) (p : Leaf → Bool) (leaves : List Leaf) → list_any (λ leaf. p leaf && b) leaves ≡ (list_any p leaves && b)
any_and b p [] = refl
any_and b p (leaf ∷ leaves) = rw (any_and b p leaves) (at (p leaf) b (list_any p leaves))
  where
    at : (x b r : Bool) → ((x && b) || (r && b)) ≡ ((x || r) && b)
    at true true r = refl
    at true false true = refl
    at true false false = refl
    at false b r = refl

and_same : (a b : Bool) → (a && b) ≡ (b && a)
and_same true true = refl
and_same true false = refl
and_same false true = refl
and_same false false = refl

any_more : (name : List ℕ) (b : ℕ) (leaves : List Leaf)
    → list_any (λ leaf. is_below leaf.name (name ++ b ∷ [])) leaves
    ≡ list_any (λ leaf. is_below leaf.name name || (bytes_eq leaf.name name && (b == 91))) leaves
any_more name b [] = refl
any_more name b (leaf ∷ leaves) = rw (below_more leaf.name name b, any_more name b leaves) refl

-- one byte more: a leaf stands above a name
pub any_below_more : (name : List ℕ) (i : ℕ) (leaves : List Leaf) → i < length name
    → list_any (λ leaf. is_below leaf.name (take (i + 1) name)) leaves
    ≡ (list_any (λ leaf. is_below leaf.name (take i name)) leaves
    || ((slice_index name i == 91) && list_any (λ leaf. bytes_eq (take i name) leaf.name) leaves))
any_below_more name i leaves h =
    rw (take_more name i 0 h) (
    any_more (take i name) (slice_index name i) leaves
    ∙ any_or (λ (leaf : Leaf). is_below leaf.name (take i name)) (λ leaf. bytes_eq leaf.name (take i name) && (slice_index name i == 91)) leaves
    ∙ ap (λ z. list_any (λ (leaf : Leaf). is_below leaf.name (take i name)) leaves || z) (
    any_and (slice_index name i == 91) (λ leaf. bytes_eq leaf.name (take i name)) leaves
    ∙ ap (λ z. z && (slice_index name i == 91)) (any_same (take i name) leaves)
    ∙ and_same (list_any (λ (leaf : Leaf). bytes_eq (take i name) leaf.name) leaves) (slice_index name i == 91)))

-- a name that has ended lies below nothing that goes on
pub below_short : (upper name : List ℕ) (i : ℕ) → length name ≤ i → i < length upper → is_below (drop i upper) (drop i name) ≡ false
below_short upper name i p q = rw (drop_all i name p, drop_more upper i 0 q) refl

-- nothing stands above the empty name
pub none_above_empty : (leaves : List Leaf) → list_any (λ leaf. is_below leaf.name []) leaves ≡ false
none_above_empty [] = refl
none_above_empty (leaf ∷ leaves) = rw (none_above_empty leaves) (at leaf.name)
  where
    at : (upper : List ℕ) → (is_below upper [] || false) ≡ false
    at [] = refl
    at (u ∷ upper) = refl

nothing_below_end : (upper : List ℕ) → is_below upper [] ≡ false
nothing_below_end [] = refl
nothing_below_end (u ∷ upper) = refl

-- no byte yet: a name lies below nothing
pub nothing_above_empty : (h : Bool) (upper : List ℕ) → h ≡ (h || is_below upper [])
nothing_above_empty h upper = rw (nothing_below_end upper) (or_false h)

or_assoc : (a b c : Bool) → ((a || b) || c) ≡ (a || (b || c))
or_assoc true b c = refl
or_assoc false b c = refl

-- one byte more: a name is noted, or lies above what was read
pub noted_more : (h0 h1 : Bool) (upper name : List ℕ) (i : ℕ) → i < length name
    → h1 ≡ (h0 || is_below upper (take i name))
    → (h1 || (bytes_eq upper (take i name) && (slice_index name i == 91))) ≡ (h0 || is_below upper (take (i + 1) name))
noted_more h0 h1 upper name i h e =
    ap (λ b. b || (bytes_eq upper (take i name) && (slice_index name i == 91))) e
    ∙ or_assoc h0 (is_below upper (take i name)) (bytes_eq upper (take i name) && (slice_index name i == 91))
    ∙ ap (λ b. h0 || b) (sym (ap (is_below upper) (take_more name i 0 h) ∙ below_more upper (take i name) (slice_index name i)))
