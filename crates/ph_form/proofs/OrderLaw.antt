-- Another order of the same pairs gives the same leaves, where no key is empty.
use Rattle.std.proofs.Common.{◌≡◌, ℕ, zero, suc, ◌+◌, ◌<◌, ◌||◌, ◌==◌, nat_lt, Bool, true, false, cond, List, [], ◌∷◌, length, map, get_or, Option, Some, None, unwrap_or, Result, Ok, Err, IfOk, refl, sym, ◌∙◌, ap, subst, bytes_eq, arith}
use Rattle.std.specs.declared.cmp.Ordering.{Ordering}
use Rattle.std.specs.declared.cmp.Ordering.TheVariants.{Less, Equal, Greater}
use Rattle.std.specs.Ordering.{ordering_reverse, is_eq, nat_cmp}
use Rattle.std.specs.Option.{option_and_then}
use Rattle.std.specs.Cmp.Lexicographic.{slice_cmp, nat_list_cmp_total}
use Rattle.std.specs.List.{list_any, swap}
use Rattle.std.specs.List.Sorted.{IsPermutation}
use Rattle.std.proofs.lemmas.List.Sorted.{IsPermutation-keeps, IsPermutation-map, list_any-IsPermutation}
use Rattle.std.proofs.Math.ListN.{set}
use Rattle.std.proofs.lemmas.Map.Text.{is_eq-slice_cmp}
use Rattle.ph_form.specs.declared.leaf.Leaf.{Leaf}
use Rattle.ph_form.specs.declared.fault.FormFault.{FormFault}
use Rattle.ph_form.specs.declared.fault.FormFault.TheVariants.{BadName, Clash, TooDeep}
use Rattle.ph_form.specs.Leaves.{added, added_under, placed, clashes, filled, key_or_free, has_empty_key, leaves_from, leaves_of}
use Rattle.ph_form.specs.Names.{base_of, child, is_below, is_within, keys_of}
use Rattle.ph_form.specs.Order.{put}
use Rattle.ph_form.specs.Pairs.{pairs_in}
use Rattle.ph_form.proofs.MapLemmas.{any_put, same_text}

-- ---- two leaves may be put in either order

put_less : (x y : Leaf) (leaves : List Leaf) → slice_cmp nat_cmp x.name y.name ≡ Less → slice_cmp nat_cmp y.name x.name ≡ Greater
    → put x (put y leaves) ≡ put y (put x leaves)
put_less x y [] xy yx = simp (xy, yx)
put_less x y (z ∷ leaves) xy yx = at (slice_cmp nat_cmp x.name z.name) (slice_cmp nat_cmp y.name z.name) refl refl (put_less x y leaves xy yx)
  where
    less : slice_cmp nat_cmp y.name z.name ≡ Less → slice_cmp nat_cmp x.name z.name ≡ Less
    less h = nat_list_cmp_total.trans x.name y.name z.name xy h

    level : slice_cmp nat_cmp y.name z.name ≡ Equal → slice_cmp nat_cmp x.name z.name ≡ Less
    level h = subst (λ name. slice_cmp nat_cmp x.name name ≡ Less) (same_text y.name z.name h) xy

    at : (a b : Ordering) → slice_cmp nat_cmp x.name z.name ≡ a → slice_cmp nat_cmp y.name z.name ≡ b
        → put x (put y leaves) ≡ put y (put x leaves) → put x (put y (z ∷ leaves)) ≡ put y (put x (z ∷ leaves))
    at a Less xz yz more = let l = less yz in simp (yz, l, xy, yx)
    at a Equal xz yz more = let l = level yz in simp (yz, l, xy, yx)
    at Less Greater xz yz more = simp (xz, yz, yx)
    at Equal Greater xz yz more = simp (xz, yz, yx)
    at Greater Greater xz yz more = simp (xz, yz) (ap (λ l. z ∷ l) more)

put_put : (x y : Leaf) (leaves : List Leaf) → bytes_eq x.name y.name ≡ false → put x (put y leaves) ≡ put y (put x leaves)
put_put x y leaves apart = at (slice_cmp nat_cmp x.name y.name) (slice_cmp nat_cmp y.name x.name) refl refl (nat_list_cmp_total.antisymm y.name x.name)
  where
    at : (o r : Ordering) → slice_cmp nat_cmp x.name y.name ≡ o → slice_cmp nat_cmp y.name x.name ≡ r
        → slice_cmp nat_cmp y.name x.name ≡ ordering_reverse (slice_cmp nat_cmp x.name y.name) → put x (put y leaves) ≡ put y (put x leaves)
    at Less r xy yx flip = put_less x y leaves xy (flip ∙ ap ordering_reverse xy)
    at Greater r xy yx flip = sym (put_less y x leaves (flip ∙ ap ordering_reverse xy) xy)
    at Equal r xy yx flip = absurd (let wrong : true ≡ false = sym (ap is_eq xy) ∙ is_eq-slice_cmp x.name y.name ∙ apart in cc)

-- ---- whole leaves, each added where it clashes with none

-- the leaves after one more, or none where it has no name or clashes
abbrev after : Option Leaf → List Leaf → Option (List Leaf)
after None leaves = None
after (Some leaf) leaves = cond (clashes leaves leaf.name) None (Some (put leaf leaves))

abbrev run : List Leaf → List (Option Leaf) → Option (List Leaf)
run leaves [] = Some leaves
run leaves (x ∷ xs) = option_and_then (λ more. run more xs) (after x leaves)

-- what a chain that ends in some list went through
went : (o : Option (List Leaf)) (f : List Leaf → Option (List Leaf)) (end : List Leaf) → option_and_then f o ≡ Some end
    → (mid : List Leaf) × (o ≡ Some mid) × (f mid ≡ Some end)
went None f end h = absurd (cc)
went (Some mid) f end h = (mid, refl, h)

through : (o : Option (List Leaf)) (f : List Leaf → Option (List Leaf)) (mid end : List Leaf) → o ≡ Some mid → f mid ≡ Some end → option_and_then f o ≡ Some end
through o f mid end e h = rw e h

-- a leaf that was added clashed with none
was_added : (x : Leaf) (leaves more : List Leaf) → after (Some x) leaves ≡ Some more → (clashes leaves x.name ≡ false) × (put x leaves ≡ more)
was_added x leaves more h = at (clashes leaves x.name) refl h
  where
    at : (b : Bool) → clashes leaves x.name ≡ b → cond b None (Some (put x leaves)) ≡ Some more → (clashes leaves x.name ≡ false) × (put x leaves ≡ more)
    at true e h = absurd (cc)
    at false e h = (e, (cc))

neither : (a b c d : Bool) → ((a || b) || (c || d)) ≡ false → (a ≡ false) × (b ≡ false) × (c ≡ false) × (d ≡ false)
neither false false false false h = (refl, refl, refl, refl)
neither true b c d h = absurd (let wrong : true ≡ false = h in cc)
neither false true c d h = absurd (let wrong : true ≡ false = h in cc)
neither false false true d h = absurd (let wrong : true ≡ false = h in cc)
neither false false false true h = absurd (let wrong : true ≡ false = h in cc)

both_free : (a b c d : Bool) → a ≡ false → b ≡ false → c ≡ false → d ≡ false → ((a || b) || (c || d)) ≡ false
both_free false false false false p q r s = refl
both_free true b c d p q r s = p
both_free false true c d p q r s = q
both_free false false true d p q r s = r
both_free false false false true p q r s = s

-- whether a name clashes once a leaf is put
clashes_put : (leaves : List Leaf) (x : Leaf) (name : List ℕ)
    → clashes (put x leaves) name
    ≡ ((is_within name x.name || list_any (λ (l : Leaf). is_within name l.name) leaves) || (is_within x.name name || list_any (λ (l : Leaf). is_within l.name name) leaves))
clashes_put leaves x name = rw (any_put (is_within name) x leaves, any_put (λ n. is_within n name) x leaves) refl

not_within : (upper name : List ℕ) → is_within upper name ≡ false → bytes_eq upper name ≡ false
not_within upper name h = at (bytes_eq upper name) h
  where
    at : (b : Bool) → (b || is_below upper name) ≡ false → b ≡ false
    at true h = h
    at false h = refl

-- two leaves that were added can be added the other way round
two_added : (x y : Leaf) (leaves mid more : List Leaf) → after (Some x) leaves ≡ Some mid → after (Some y) mid ≡ Some more
    → (other : List Leaf) × (after (Some y) leaves ≡ Some other) × (after (Some x) other ≡ Some more)
two_added x y leaves mid more hx hy =
    let ax = was_added x leaves mid hx in
    let ay = was_added y mid more hy in
    let all : clashes (put x leaves) y.name ≡ false = rw ax.1 ay.0 in
    let n = neither (is_within y.name x.name) (list_any (λ (l : Leaf). is_within y.name l.name) leaves) (is_within x.name y.name) (list_any (λ (l : Leaf). is_within l.name y.name) leaves)
    (sym (clashes_put leaves x y.name) ∙ all) in
    let o = neither false (list_any (λ (l : Leaf). is_within x.name l.name) leaves) false (list_any (λ (l : Leaf). is_within l.name x.name) leaves) ax.0 in
    let first : clashes leaves y.name ≡ false = both_free false (list_any (λ (l : Leaf). is_within y.name l.name) leaves) false (list_any (λ (l : Leaf). is_within l.name y.name) leaves) refl n.1 refl n.3 in
    let second : clashes (put y leaves) x.name ≡ false = clashes_put leaves y x.name
    ∙ both_free (is_within x.name y.name) (list_any (λ (l : Leaf). is_within x.name l.name) leaves) (is_within y.name x.name) (list_any (λ (l : Leaf). is_within l.name x.name) leaves) n.2 o.1 n.0 o.3 in
    (put y leaves, rw first refl, rw second (ap Some (put_put x y leaves (not_within x.name y.name n.2) ∙ ap (put y) ax.1 ∙ ay.1)))

-- ---- another order

neighbours : (x y : Option Leaf) (xs : List (Option Leaf)) (leaves end : List Leaf) → run leaves (x ∷ y ∷ xs) ≡ Some end → run leaves (y ∷ x ∷ xs) ≡ Some end
neighbours None y xs leaves end h = absurd (cc)
neighbours (Some x) None xs leaves end h =
    let a = went (after (Some x) leaves) (λ more. run more (None ∷ xs)) end h in
    let wrong : run a.0 (None ∷ xs) ≡ Some end = a.2 in
    absurd (cc)
neighbours (Some x) (Some y) xs leaves end h =
    let a = went (after (Some x) leaves) (λ more. run more (Some y ∷ xs)) end h in
    let b = went (after (Some y) a.0) (λ more. run more xs) end a.2 in
    let t = two_added x y leaves a.0 b.0 a.1 b.1 in
    through (after (Some y) leaves) (λ more. run more (Some x ∷ xs)) t.0 end t.1
    (through (after (Some x) t.0) (λ more. run more xs) b.0 end t.2 b.2)

-- what holds of the rest holds behind a leaf
behind : (x : Option Leaf) (xs ys : List (Option Leaf)) (end : List Leaf) → ((leaves : List Leaf) → run leaves xs ≡ Some end → run leaves ys ≡ Some end)
    → (leaves : List Leaf) → run leaves (x ∷ xs) ≡ Some end → run leaves (x ∷ ys) ≡ Some end
behind x xs ys end rest leaves h =
    let a = went (after x leaves) (λ more. run more xs) end h in
    through (after x leaves) (λ more. run more ys) a.0 end a.1 (rest a.0 a.2)

-- the first changes places with one behind it
with_first : (d x : Option Leaf) (xs : List (Option Leaf)) (j : ℕ) (end : List Leaf) → j < length xs
    → (leaves : List Leaf) → run leaves (x ∷ xs) ≡ Some end → run leaves (get_or xs j d ∷ set xs j x) ≡ Some end
with_first d x [] j end h leaves r = absurd (omega arith)
with_first d x (z ∷ xs) zero end h leaves r = neighbours x z xs leaves end r
with_first d x (z ∷ xs) (suc j) end h leaves r =
    neighbours z (get_or xs j d) (set xs j x) leaves end
    (behind z (x ∷ xs) (get_or xs j d ∷ set xs j x) end (with_first d x xs j end (omega arith)) leaves (neighbours x z xs leaves end r))

-- two change places
exchange : (d : Option Leaf) (xs : List (Option Leaf)) (i j : ℕ) (end : List Leaf) → i < length xs → j < length xs
    → (leaves : List Leaf) → run leaves xs ≡ Some end → run leaves (set (set xs i (get_or xs j d)) j (get_or xs i d)) ≡ Some end
exchange d [] i j end p q leaves r = absurd (omega arith)
exchange d (x ∷ xs) zero zero end p q leaves r = r
exchange d (x ∷ xs) zero (suc j) end p q leaves r = with_first d x xs j end (omega arith) leaves r
exchange d (x ∷ xs) (suc i) zero end p q leaves r = with_first d x xs i end (omega arith) leaves r
exchange d (x ∷ xs) (suc i) (suc j) end p q leaves r =
    behind x xs (set (set xs i (get_or xs j d)) j (get_or xs i d)) end (exchange d xs i j end (omega arith) (omega arith)) leaves r

swap_runs : (xs : List (Option Leaf)) (i j : ℕ) (end leaves : List Leaf) → i < length xs → j < length xs → run leaves xs ≡ Some end → run leaves (swap xs i j) ≡ Some end
swap_runs [] i j end leaves p q r = r
swap_runs (x ∷ xs) i j end leaves p q r = exchange x (x ∷ xs) i j end p q leaves r

-- ---- pairs as whole leaves

abbrev spelled : List ℕ → List (List ℕ) → List ℕ
spelled beginning [] = beginning
spelled beginning (key ∷ keys) = spelled (child beginning key) keys

abbrev whole_under : List ℕ → Option (List (List ℕ)) → List ℕ → Option Leaf
whole_under base None text = None
whole_under base (Some keys) text =
    cond (length base == 0) None (cond (nat_lt 4 (length keys)) None (Some (record { name = spelled base keys; text = text })))

abbrev whole : List ℕ × List ℕ → Option Leaf
whole pair = whole_under (base_of pair.0) (keys_of pair.0) pair.1

abbrev ok_of : Result (List Leaf) FormFault → Option (List Leaf)
ok_of (Ok leaves) = Some leaves
ok_of (Err fault) = None

filled_spelled : (leaves : List Leaf) (beginning : List ℕ) (keys : List (List ℕ)) → list_any (λ (key : List ℕ). length key == 0) keys ≡ false
    → filled leaves beginning keys ≡ spelled beginning keys
filled_spelled leaves beginning [] h = refl
filled_spelled leaves beginning (key ∷ keys) h = at (length key == 0) refl h (filled_spelled leaves (child beginning key) keys)
  where
    at : (b : Bool) → (length key == 0) ≡ b → (b || list_any (λ (key : List ℕ). length key == 0) keys) ≡ false
        → (list_any (λ (key : List ℕ). length key == 0) keys ≡ false → filled leaves (child beginning key) keys ≡ spelled (child beginning key) keys)
        → filled leaves (child beginning (key_or_free leaves beginning key)) keys ≡ spelled (child beginning key) keys
    at true e h more = absurd (let wrong : true ≡ false = h in cc)
    at false e h more = rw e (more h)

ok_placed : (b : Bool) (at_ : ℕ) (leaves : List Leaf) → ok_of (cond b (Err (Clash at_)) (Ok leaves)) ≡ cond b None (Some leaves)
ok_placed true at_ leaves = refl
ok_placed false at_ leaves = refl

step_under : (at_ : ℕ) (leaves : List Leaf) (base : List ℕ) (keys : Option (List (List ℕ))) (text : List ℕ)
    → list_any (λ (key : List ℕ). length key == 0) (unwrap_or keys []) ≡ false
    → ok_of (added_under at_ leaves base keys text) ≡ after (whole_under base keys text) leaves
step_under at_ leaves base None text h = refl
step_under at_ leaves base (Some keys) text h =
    rw (filled_spelled leaves base keys h) (at (length base == 0) (nat_lt 4 (length keys)))
  where
    leaf : Leaf
    leaf = record { name = spelled base keys; text = text }

    at : (s t : Bool) → ok_of (cond s (Err (BadName at_)) (cond t (Err (TooDeep at_)) (placed at_ leaves (spelled base keys) text)))
        ≡ after (cond s None (cond t None (Some (record { name = spelled base keys; text = text })))) leaves
    at true t = refl
    at false true = refl
    at false false = ok_placed (clashes leaves (spelled base keys)) at_ (put (record { name = spelled base keys; text = text }) leaves)

first_none : (s t : Bool) → (s || t) ≡ false → s ≡ false
first_none true t h = h
first_none false t h = refl

rest_none : (s t : Bool) → (s || t) ≡ false → t ≡ false
rest_none true t h = absurd (let wrong : true ≡ false = h in cc)
rest_none false t h = h

-- pairs without empty keys run as whole leaves
runs : (at_ : ℕ) (leaves : List Leaf) (pairs : List (List ℕ × List ℕ)) → list_any has_empty_key pairs ≡ false
    → ok_of (leaves_from at_ (Ok leaves) pairs) ≡ run leaves (map whole pairs)
runs at_ leaves [] h = refl
runs at_ leaves (pair ∷ pairs) h =
    at (added at_ leaves pair) (after (whole pair) leaves)
    (step_under at_ leaves (base_of pair.0) (keys_of pair.0) pair.1 (first_none (has_empty_key pair) (list_any has_empty_key pairs) h))
    (λ more. runs (at_ + 1) more pairs (rest_none (has_empty_key pair) (list_any has_empty_key pairs) h))
  where
    at : (r : Result (List Leaf) FormFault) (o : Option (List Leaf)) → ok_of r ≡ o
        → ((more : List Leaf) → ok_of (leaves_from (at_ + 1) (Ok more) pairs) ≡ run more (map whole pairs))
        → ok_of (leaves_from (at_ + 1) r pairs) ≡ option_and_then (λ more. run more (map whole pairs)) o
    at (Ok more) o e f = rw (← e) (f more)
    at (Err fault) o e f = rw (← e) refl

is_ok_of : (r : Result (List Leaf) FormFault) (leaves : List Leaf) → ok_of r ≡ Some leaves → r ≡ Ok leaves
is_ok_of (Ok more) leaves h = cc
is_ok_of (Err fault) leaves h = absurd (cc)

-- the same pairs in another order give the same leaves
pub another_order : (pairs others : List (List ℕ × List ℕ)) (leaves : List Leaf) → IsPermutation pairs others → list_any has_empty_key others ≡ false
    → leaves_of pairs ≡ Ok leaves → leaves_of others ≡ Ok leaves
another_order pairs others leaves moved named h =
    let same : list_any has_empty_key pairs ≡ false = list_any-IsPermutation has_empty_key pairs others moved ∙ named in
    let before : run [] (map whole pairs) ≡ Some leaves = sym (runs 0 [] pairs same) ∙ ap ok_of h in
    let behind_ : run [] (map whole others) ≡ Some leaves =
    IsPermutation-keeps (map whole pairs) (λ xs. run [] xs ≡ Some leaves) before (λ xs i j p q r. swap_runs xs i j leaves [] p q r)
    (map whole others) (IsPermutation-map whole pairs others moved) in
    is_ok_of (leaves_of others) leaves (runs 0 [] others named ∙ behind_)

-- so does a form that was read
pub any_order : (query body : List ℕ) (r : Result (List Leaf) FormFault) → IfOk r (λ form. leaves_of (pairs_in query body) ≡ Ok form)
    → IfOk r (λ form. (pairs : List (List ℕ × List ℕ)) → IsPermutation (pairs_in query body) pairs → list_any has_empty_key pairs ≡ false → leaves_of pairs ≡ Ok form)
any_order query body (Ok form) h = λ pairs moved named. another_order (pairs_in query body) pairs form moved named h
any_order query body (Err fault) h = tt
