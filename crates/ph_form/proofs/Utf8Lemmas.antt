-- The names that a form makes of UTF-8 are UTF-8.
use Rattle.std.proofs.Common.{◌≡◌, ℕ, zero, suc, ◌+◌, ◌<◌, ◌≤◌, ◌^◌, ◌==◌, ◌⊎◌, Bool, true, false, cond, List, [], ◌∷◌, ◌++◌, length, take, drop, get_or, Option, Some, None, Vec, option_map, refl, sym, ◌∙◌, ap, subst, inl, inr, arith, add-one}
use lib.Utf8.{encode}
use Rattle.std.specs.declared.alloc.Global.{Global}
use Rattle.std.proofs.lemmas.Bool.Decides.{nat_tests}
use Rattle.std.proofs.lemmas.List.{drop_all, take_all, append_assoc}
use Rattle.std.proofs.lemmas.List.Sums.{passes_at_first}
use Rattle.std.proofs.lemmas.List.Folds.{list_all-append}
use Rattle.std.proofs.lemmas.Fmt.{IsAscii-decimal}
use Rattle.std.proofs.lemmas.Str.{IsUtf8-append, IsUtf8-nil, IsUtf8-take, IsUtf8-drop, IsUtf8-from_ascii, IsUtf8-from_is_utf8, is_utf8-from_IsUtf8, IsCharBoundary-before_ascii, IsCharBoundary-after_ascii}
use Rattle.std.specs.Fmt.{decimal}
use Rattle.std.specs.List.{list_all, position_or_len}
use Rattle.std.specs.Str.{IsUtf8, is_utf8}
use Rattle.ph_form.specs.declared.leaf.Leaf.{Leaf}
use Rattle.ph_form.specs.Leaves.{is_free, free_from, least_free, key_or_free, filled}
use Rattle.ph_form.specs.Names.{is_bracket, keys_from, keys_of, base_of, tail_of, child, is_below}
use Rattle.ph_form.specs.Order.{is_leaf_utf8}
use Rattle.ph_form.specs.Readers.{rest_after, entry_of}
use Rattle.ph_form.proofs.MapLemmas.{first_of_all, rest_of_all}

-- a leaf of UTF-8
pub both_utf8 : (name text : List ℕ) → IsUtf8 name → IsUtf8 text → is_leaf_utf8 (record { name = name; text = text }) ≡ true
both_utf8 name text n t = rw (is_utf8-from_IsUtf8 name n, is_utf8-from_IsUtf8 text t) refl

bracket_small : (b : ℕ) → is_bracket b ≡ true → b < 128
bracket_small b h = grind (arith, nat_tests)

below_or_not : (m n : ℕ) → (m < n) ⊎ (n ≤ m)
below_or_not m n = grind (arith, nat_tests)

-- the base of a name
pub base_utf8 : (name : List ℕ) → IsUtf8 name → IsUtf8 (base_of name)
base_utf8 name u = at (below_or_not (position_or_len is_bracket name) (length name))
  where
    at : (position_or_len is_bracket name < length name) ⊎ (length name ≤ position_or_len is_bracket name) → IsUtf8 (base_of name)
    at (inl h) = IsUtf8-take name _ u (IsCharBoundary-before_ascii name _ h (bracket_small _ (passes_at_first is_bracket name 0 h)))
    at (inr h) = subst IsUtf8 (sym (take_all (position_or_len is_bracket name) name h)) u

-- what follows the base
rest_utf8 : (name : List ℕ) → IsUtf8 name → IsUtf8 (tail_of name)
rest_utf8 name u = at (below_or_not (position_or_len is_bracket name) (length name))
  where
    at : (position_or_len is_bracket name < length name) ⊎ (length name ≤ position_or_len is_bracket name) → IsUtf8 (drop (position_or_len is_bracket name) name)
    at (inl h) = IsUtf8-drop name _ u (IsCharBoundary-before_ascii name _ h (bracket_small _ (passes_at_first is_bracket name 0 h)))
    at (inr h) = subst IsUtf8 (sym (drop_all (position_or_len is_bracket name) name h)) IsUtf8-nil

-- the text left, with the part of a key in front of it where it stands within brackets
abbrev Left : Bool → List ℕ → List ℕ → Type 0
Left false key text = IsUtf8 text
Left true key text = IsUtf8 (key ++ text)

is_byte : (b n : ℕ) → (b == n) ≡ true → n < 128 → b < 128
is_byte b n e h = grind (arith, nat_tests)

after_byte : (b : ℕ) (text : List ℕ) → b < 128 → IsUtf8 (b ∷ text) → IsUtf8 text
after_byte b text h u = IsUtf8-drop (b ∷ text) 1 u (IsCharBoundary-after_ascii (b ∷ text) 0 u (omega arith) h)

boundary_at : (key : List ℕ) (b : ℕ) (text : List ℕ) → (length key < length (key ++ b ∷ text)) × (get_or (key ++ b ∷ text) (length key) 0 ≡ b)
boundary_at [] b text = (omega arith, refl)
boundary_at (k ∷ key) b text = let h = boundary_at key b text in (omega (arith, h.0), h.1)

take_key : (key rest : List ℕ) → take (length key) (key ++ rest) ≡ key
take_key [] rest = refl
take_key (k ∷ key) rest = ap (λ l. k ∷ l) (take_key key rest)

drop_key : (key : List ℕ) (b : ℕ) (text : List ℕ) → drop (length key + 1) (key ++ b ∷ text) ≡ text
drop_key [] b text = refl
drop_key (k ∷ key) b text = rw add-one (let h = drop_key key b text in rw add-one at h)

key_before : (key : List ℕ) (b : ℕ) (text : List ℕ) → b < 128 → IsUtf8 (key ++ b ∷ text) → IsUtf8 key
key_before key b text h u =
    let p = boundary_at key b text in
    subst IsUtf8 (take_key key (b ∷ text)) (IsUtf8-take (key ++ b ∷ text) (length key) u (IsCharBoundary-before_ascii _ _ p.0 (omega (arith, p.1))))

text_after : (key : List ℕ) (b : ℕ) (text : List ℕ) → b < 128 → IsUtf8 (key ++ b ∷ text) → IsUtf8 text
text_after key b text h u =
    let p = boundary_at key b text in
    subst IsUtf8 (drop_key key b text) (IsUtf8-drop (key ++ b ∷ text) (length key + 1) u (IsCharBoundary-after_ascii _ _ u p.0 (omega (arith, p.1))))

one_more : (keys : List (List ℕ)) (key : List ℕ) → list_all is_utf8 keys ≡ true → IsUtf8 key → list_all is_utf8 (keys ++ key ∷ []) ≡ true
one_more keys key h u = rw (list_all-append is_utf8 keys (key ∷ []), h, is_utf8-from_IsUtf8 key u) refl

-- the keys that a text of UTF-8 is read as
pub keys_utf8 : (keys : List (List ℕ)) (inside : Bool) (key text : List ℕ) (found : List (List ℕ)) → keys_from keys inside key text ≡ Some found
    → list_all is_utf8 keys ≡ true → Left inside key text → list_all is_utf8 found ≡ true
keys_utf8 keys false key [] found e h u = let same : keys ≡ found = cc in subst (λ ks. list_all is_utf8 ks ≡ true) same h
keys_utf8 keys true key [] found e h u = absurd (cc)
keys_utf8 keys false key (b ∷ text) found e h u =
    at (b == 91) refl e (λ v e. keys_utf8 keys true [] text found e h v)
  where
    at : (t : Bool) → (b == 91) ≡ t → cond t (keys_from keys true [] text) None ≡ Some found
        → (IsUtf8 text → keys_from keys true [] text ≡ Some found → list_all is_utf8 found ≡ true) → list_all is_utf8 found ≡ true
    at true s e more = more (after_byte b text (is_byte b 91 s (omega arith)) u) e
    at false s e more = absurd (cc)
keys_utf8 keys true key (b ∷ text) found e h u =
    at (b == 93) (b == 91) refl e
    (λ k v e. keys_utf8 (keys ++ key ∷ []) false [] text found e k v)
    (λ v e. keys_utf8 keys true (key ++ b ∷ []) text found e h v)
  where
    at : (s t : Bool) → (b == 93) ≡ s
        → cond s (keys_from (keys ++ key ∷ []) false [] text) (cond t None (keys_from keys true (key ++ b ∷ []) text)) ≡ Some found
        → (list_all is_utf8 (keys ++ key ∷ []) ≡ true → IsUtf8 text → keys_from (keys ++ key ∷ []) false [] text ≡ Some found → list_all is_utf8 found ≡ true)
        → (IsUtf8 ((key ++ b ∷ []) ++ text) → keys_from keys true (key ++ b ∷ []) text ≡ Some found → list_all is_utf8 found ≡ true)
        → list_all is_utf8 found ≡ true
    at true t s e ends more = ends (one_more keys key h (key_before key b text (is_byte b 93 s (omega arith)) u)) (text_after key b text (is_byte b 93 s (omega arith)) u) e
    at false true s e ends more = absurd (cc)
    at false false s e ends more = more (rw append_assoc u) e

-- the keys of a name
pub name_keys_utf8 : (name : List ℕ) (keys : List (List ℕ)) → IsUtf8 name → keys_of name ≡ Some keys → list_all is_utf8 keys ≡ true
name_keys_utf8 name keys u e = keys_utf8 [] false [] (tail_of name) keys e refl (rest_utf8 name u)

le_free : (b : Bool) (n count rest : ℕ) → rest ≤ n + 1 + count → cond b n rest ≤ n + suc count
le_free true n count rest h = omega arith
le_free false n count rest h = omega arith

-- the least free number is at most that of the leaves
free_small : (leaves : List Leaf) (beginning : List ℕ) (n count : ℕ) → free_from leaves beginning n count ≤ n + count
free_small leaves beginning n zero = omega arith
free_small leaves beginning n (suc count) = le_free (is_free leaves beginning n) n count _ (free_small leaves beginning (n + 1) count)

open_utf8 : IsUtf8 (91 ∷ [])
unfolding encode
open_utf8 = (91 ∷ [], (refl, refl))

close_utf8 : IsUtf8 (93 ∷ [])
unfolding encode
close_utf8 = (93 ∷ [], (refl, refl))

-- the name of a key below a beginning
child_utf8 : (beginning key : List ℕ) → IsUtf8 beginning → IsUtf8 key → IsUtf8 (child beginning key)
child_utf8 beginning key b k =
    IsUtf8-append beginning (91 ∷ (key ++ (93 ∷ []))) b
    (IsUtf8-append (91 ∷ []) (key ++ 93 ∷ []) open_utf8 (IsUtf8-append key (93 ∷ []) k close_utf8))

key_utf8 : (leaves : List Leaf) (beginning key : List ℕ) → length leaves < 2 ^ 64 → IsUtf8 key → IsUtf8 (key_or_free leaves beginning key)
key_utf8 leaves beginning key small u = at (length key == 0)
  where
    at : (b : Bool) → IsUtf8 (cond b (decimal (least_free leaves beginning)) key)
    at true = IsUtf8-from_ascii (decimal (least_free leaves beginning))
        (IsAscii-decimal (least_free leaves beginning) (omega (arith, free_small leaves beginning 0 (length leaves))))
    at false = u

-- a name that is filled
pub filled_utf8 : (leaves : List Leaf) (beginning : List ℕ) (keys : List (List ℕ)) → length leaves < 2 ^ 64
    → IsUtf8 beginning → list_all is_utf8 keys ≡ true → IsUtf8 (filled leaves beginning keys)
filled_utf8 leaves beginning [] small b k = b
filled_utf8 leaves beginning (key ∷ keys) small b k =
    filled_utf8 leaves (child beginning (key_or_free leaves beginning key)) keys small
    (child_utf8 beginning _ b (key_utf8 leaves beginning key small (IsUtf8-from_is_utf8 key (first_of_all (is_utf8 key) (list_all is_utf8 keys) k))))
    (rest_of_all (is_utf8 key) (list_all is_utf8 keys) k)

-- the keys that were read
pub keys_are : (name : List ℕ) (keys : Vec (List ℕ) Global) (found : Option (Vec (List ℕ) Global)) → found ≡ Some keys
    → option_map (λ (v : Vec (List ℕ) Global). v.items) found ≡ keys_of name → keys_of name ≡ Some keys.items
keys_are name keys found e h = sym h ∙ ap (option_map (λ (v : Vec (List ℕ) Global). v.items)) e

-- a name that lies below another is that one, a `[` and the rest
pub below_is : (upper name : List ℕ) → is_below upper name ≡ true → name ≡ upper ++ (91 ∷ rest_after upper name)
below_is [] [] h = absurd (let wrong : false ≡ true = h in cc)
below_is [] (b ∷ name) h = ap (λ c. c ∷ name) (is_91 b h)
  where
    is_91 : (b : ℕ) → (b == 91) ≡ true → b ≡ 91
    is_91 b h = grind (arith, nat_tests)
below_is (c ∷ upper) [] h = absurd (let wrong : false ≡ true = h in cc)
below_is (c ∷ upper) (b ∷ name) h =
    let e = below_is upper name (rest_of_all (c == b) (is_below upper name) h) in
    rw add-one (joined (same c b (first_of_all (c == b) (is_below upper name) h)) (rw add-one at e))
  where
    same : (c b : ℕ) → (c == b) ≡ true → b ≡ c
    same c b h = grind (arith, nat_tests)

    joined : {xs ys : List ℕ} {x y : ℕ} → x ≡ y → xs ≡ ys → x ∷ xs ≡ y ∷ ys
    joined e h = cc

-- the entry of a leaf below a name
pub entry_utf8 : (upper : List ℕ) (leaf : Leaf) → is_below upper leaf.name ≡ true → is_leaf_utf8 leaf ≡ true → is_leaf_utf8 (entry_of upper leaf) ≡ true
entry_utf8 upper leaf h u =
    let name : IsUtf8 leaf.name = IsUtf8-from_is_utf8 leaf.name (first_of_all (is_utf8 leaf.name) (is_utf8 leaf.text) u) in
    let rest : IsUtf8 (rest_after upper leaf.name) = text_after upper 91 (rest_after upper leaf.name) (omega arith) (subst IsUtf8 (below_is upper leaf.name h) name) in
    both_utf8 (base_of (rest_after upper leaf.name)) leaf.text (base_utf8 (rest_after upper leaf.name) rest)
    (IsUtf8-from_is_utf8 leaf.text (rest_of_all (is_utf8 leaf.name) (is_utf8 leaf.text) u))
