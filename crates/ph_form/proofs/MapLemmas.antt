-- What a map that is keyed by names has after an insertion, and that a reading stays an index.
use Rattle.std.proofs.Common.{◌≡◌, ℕ, ◌+◌, ◌≤◌, ◌&&◌, ◌||◌, Bool, true, false, cond, List, [], ◌∷◌, length, map, not, suc, unwrap_or, Option, Some, Vec, refl, sym, ◌∙◌, ap, subst, bytes_eq, is_some, arith}
use Rattle.std.specs.declared.alloc.Global.{Global}
use Rattle.std.specs.declared.cmp.Ordering.{Ordering}
use Rattle.std.specs.declared.cmp.Ordering.TheVariants.{Less, Equal, Greater}
use Rattle.std.specs.Ordering.{match_ordering, is_eq, nat_cmp}
use Rattle.std.specs.Cmp.Lexicographic.{slice_cmp, bytes_decides}
use Rattle.std.specs.List.{list_all, list_any}
use Rattle.std.specs.Map.{lookup}
use Rattle.std.specs.BTreeMap.{BTreeMap, insert_entry}
use Rattle.std.proofs.lemmas.Map.Text.{is_eq-slice_cmp}
use Rattle.ph_form.specs.declared.leaf.Leaf.{Leaf}
use Rattle.std.specs.Fmt.{decimal}
use Rattle.ph_form.specs.declared.reading.Reading.{Reading}
use Rattle.ph_form.specs.Entries.{leaf_of}
use Rattle.ph_form.specs.Index.{at_name, leaves_in, has_map, next_of, AreTaken, IsSet, IsIndex}
use Rattle.ph_form.specs.Names.{is_below, is_within, child}
use Rattle.ph_form.specs.Order.{is_leaf_utf8, put}

-- the order of keys
abbrev pub key_cmp : Vec ℕ Global → Vec ℕ Global → Ordering
key_cmp x y = slice_cmp nat_cmp x.items y.items

-- two texts of which neither stands before the other are the same
pub same_text : (xs ys : List ℕ) → slice_cmp nat_cmp xs ys ≡ Equal → xs ≡ ys
same_text xs ys e = (bytes_decides xs ys).0 (sym (is_eq-slice_cmp xs ys) ∙ ap is_eq e)

not_same : (q : List ℕ) (xs ys : List ℕ) (o : Ordering) → slice_cmp nat_cmp xs ys ≡ o → is_eq o ≡ false → bytes_eq q xs ≡ true → is_eq (slice_cmp nat_cmp q ys) ≡ false
not_same q xs ys o e n s = subst (λ t. is_eq (slice_cmp nat_cmp t ys) ≡ false) (sym ((bytes_decides q xs).0 s)) (ap is_eq e ∙ n)

swapped : {X : Type 0} (s t : Bool) (v w : X) (r : Option X) → (s ≡ true → t ≡ false) → cond t (Some w) (cond s (Some v) r) ≡ cond s (Some v) (cond t (Some w) r)
swapped true true v w r f = absurd (let wrong : true ≡ false = f refl in cc)
swapped true false v w r f = refl
swapped false t v w r f = refl

twice : {X : Type 0} (s : Bool) (v w : X) (r : Option X) → cond s (Some v) r ≡ cond s (Some v) (cond s (Some w) r)
twice true v w r = refl
twice false v w r = refl

-- a look-up after an insertion
pub lookup_insert : {X : Type 0} (q : List ℕ) (k : Vec ℕ Global) (v : X) (entries : List (Vec ℕ Global × X))
    → lookup (λ key. is_eq (slice_cmp nat_cmp q key.items)) (insert_entry key_cmp entries k v)
    ≡ cond (bytes_eq q k.items) (Some v) (lookup (λ key. is_eq (slice_cmp nat_cmp q key.items)) entries)
lookup_insert q k v [] = rw is_eq-slice_cmp refl
lookup_insert {X} q k v (e ∷ entries) = at (key_cmp k e.0) refl (lookup_insert q k v entries)
  where
    test : Vec ℕ Global → Bool
    test = λ key. is_eq (slice_cmp nat_cmp q key.items)

    here : List ℕ → Type 0
    here = λ t. cond (is_eq (slice_cmp nat_cmp q t)) (Some v) (lookup test entries)
        ≡ cond (bytes_eq q k.items) (Some v) (cond (is_eq (slice_cmp nat_cmp q t)) (Some e.1) (lookup test entries))

    at : (o : Ordering) → key_cmp k e.0 ≡ o
        → lookup test (insert_entry key_cmp entries k v) ≡ cond (bytes_eq q k.items) (Some v) (lookup test entries)
        → lookup test (match_ordering o ((k, v) ∷ e ∷ entries) ((e.0, v) ∷ entries) (e ∷ insert_entry key_cmp entries k v))
        ≡ cond (bytes_eq q k.items) (Some v) (lookup test (e ∷ entries))
    at Less h rest = ap (λ t. cond t (Some v) (lookup test (e ∷ entries))) (is_eq-slice_cmp q k.items)
    at Equal h rest = subst here (same_text k.items e.0.items h) (rw (is_eq-slice_cmp q k.items) (twice (bytes_eq q k.items) v e.1 (lookup test entries)))
    at Greater h rest =
        ap (λ t. cond (test e.0) (Some e.1) t) rest
        ∙ swapped (bytes_eq q k.items) (test e.0) v e.1 (lookup test entries) (not_same q k.items e.0.items Greater h refl)

-- what a map has after an insertion
pub at_name_set : {X : Type 0} (old new : BTreeMap (Vec ℕ Global) X) (k : Vec ℕ Global) (v : X) (q : List ℕ)
    → new.entries ≡ insert_entry key_cmp old.entries k v
    → at_name new q ≡ cond (bytes_eq q k.items) (Some v) (at_name old q)
at_name_set old new k v q e = rw e (lookup_insert q k v old.entries)

-- an insertion among the entries puts a leaf among the leaves
pub put_leaf : (k v : Vec ℕ Global) (entries : List (Vec ℕ Global × Vec ℕ Global))
    → map leaf_of (insert_entry key_cmp entries k v) ≡ put (leaf_of (k, v)) (map leaf_of entries)
put_leaf k v [] = refl
put_leaf k v (e ∷ entries) = at (key_cmp k e.0) refl (put_leaf k v entries)
  where
    at : (o : Ordering) → key_cmp k e.0 ≡ o
        → map leaf_of (insert_entry key_cmp entries k v) ≡ put (leaf_of (k, v)) (map leaf_of entries)
        → map leaf_of (match_ordering o ((k, v) ∷ e ∷ entries) ((e.0, v) ∷ entries) (e ∷ insert_entry key_cmp entries k v))
        ≡ match_ordering o (leaf_of (k, v) ∷ leaf_of e ∷ map leaf_of entries) (leaf_of (k, v) ∷ map leaf_of entries) (leaf_of e ∷ put (leaf_of (k, v)) (map leaf_of entries))
    at Less h rest = refl
    at Equal h rest = ap (λ (name : List ℕ). record { name = name; text = v.items } ∷ map leaf_of entries) (sym (same_text k.items e.0.items h))
    at Greater h rest = ap (λ leaves. leaf_of e ∷ leaves) rest

-- the leaves after an insertion, whatever the vectors of bytes
pub leaves_put : (old new : BTreeMap (Vec ℕ Global) (Vec ℕ Global)) (k v : Vec ℕ Global) (name text : List ℕ)
    → new.entries ≡ insert_entry key_cmp old.entries k v → k.items ≡ name → v.items ≡ text
    → map leaf_of new.entries ≡ put (record { name = name; text = text }) (map leaf_of old.entries)
leaves_put old new k v name text e kn vt =
    ap (map leaf_of) e ∙ put_leaf k v old.entries
    ∙ ap (λ (n : List ℕ). put (record { name = n; text = v.items }) (map leaf_of old.entries)) kn
    ∙ ap (λ (t : List ℕ). put (record { name = name; text = t }) (map leaf_of old.entries)) vt

or_same : (a b : Bool) → (a || b) ≡ (b || a)
or_same true true = refl
or_same true false = refl
or_same false true = refl
or_same false false = refl

or_past : (a b c : Bool) → (a || (b || c)) ≡ (b || (a || c))
or_past true true c = refl
or_past true false c = refl
or_past false b c = refl

or_twice : (a c : Bool) → (a || c) ≡ (a || (a || c))
or_twice true c = refl
or_twice false c = refl

-- a name passes a test after a leaf is put where it does so before, or the leaf's does
pub any_put : (p : List ℕ → Bool) (leaf : Leaf) (leaves : List Leaf)
    → list_any (λ l. p l.name) (put leaf leaves) ≡ (p leaf.name || list_any (λ (l : Leaf). p l.name) leaves)
any_put p leaf [] = refl
any_put p leaf (other ∷ leaves) = at (slice_cmp nat_cmp leaf.name other.name) refl (any_put p leaf leaves)
  where
    at : (o : Ordering) → slice_cmp nat_cmp leaf.name other.name ≡ o
        → list_any (λ l. p l.name) (put leaf leaves) ≡ (p leaf.name || list_any (λ (l : Leaf). p l.name) leaves)
        → list_any (λ (l : Leaf). p l.name) (match_ordering o (leaf ∷ other ∷ leaves) (leaf ∷ leaves) (other ∷ put leaf leaves))
        ≡ (p leaf.name || list_any (λ (l : Leaf). p l.name) (other ∷ leaves))
    at Less h rest = refl
    at Equal h rest =
        subst (λ (t : List ℕ). (p leaf.name || list_any (λ (l : Leaf). p l.name) leaves) ≡ (p leaf.name || (p t || list_any (λ (l : Leaf). p l.name) leaves)))
        (same_text leaf.name other.name h) (or_twice (p leaf.name) (list_any (λ (l : Leaf). p l.name) leaves))
    at Greater h rest = ap (λ b. p other.name || b) rest ∙ or_past (p other.name) (p leaf.name) (list_any (λ (l : Leaf). p l.name) leaves)

all_here : (s t : Bool) → s ≡ true → t ≡ true → (s && t) ≡ true
all_here true t s h = h
all_here false t s h = s

pub first_of_all : (s t : Bool) → (s && t) ≡ true → s ≡ true
first_of_all true t h = refl
first_of_all false t h = h

pub rest_of_all : (s t : Bool) → (s && t) ≡ true → t ≡ true
rest_of_all true t h = h
rest_of_all false t h = absurd (let wrong : false ≡ true = h in cc)

-- what holds of each leaf holds after one is put of which it holds
pub all_put : (p : Leaf → Bool) (leaf : Leaf) (leaves : List Leaf) → p leaf ≡ true → list_all p leaves ≡ true → list_all p (put leaf leaves) ≡ true
all_put p leaf [] s h = all_here (p leaf) true s refl
all_put p leaf (other ∷ leaves) s h =
    at (slice_cmp nat_cmp leaf.name other.name) (all_put p leaf leaves s (rest_of_all (p other) (list_all p leaves) h))
  where
    at : (o : Ordering) → list_all p (put leaf leaves) ≡ true
        → list_all p (match_ordering o (leaf ∷ other ∷ leaves) (leaf ∷ leaves) (other ∷ put leaf leaves)) ≡ true
    at Less rest = all_here (p leaf) (list_all p (other ∷ leaves)) s h
    at Equal rest = all_here (p leaf) (list_all p leaves) s (rest_of_all (p other) (list_all p leaves) h)
    at Greater rest = all_here (p other) (list_all p (put leaf leaves)) (first_of_all (p other) (list_all p leaves) h) rest

-- a leaf that is put takes none away
pub length_put : (leaf : Leaf) (leaves : List Leaf) → length leaves ≤ length (put leaf leaves)
length_put leaf [] = omega arith
length_put leaf (other ∷ leaves) = at (slice_cmp nat_cmp leaf.name other.name) (length_put leaf leaves)
  where
    at : (o : Ordering) → length leaves ≤ length (put leaf leaves)
        → suc (length leaves) ≤ length (match_ordering o (leaf ∷ other ∷ leaves) (leaf ∷ leaves) (other ∷ put leaf leaves))
    at Less h = omega arith
    at Equal h = omega arith
    at Greater h = omega arith

-- a leaf that is put is at most one more
pub length_put_most : (leaf : Leaf) (leaves : List Leaf) → length (put leaf leaves) ≤ length leaves + 1
length_put_most leaf [] = omega arith
length_put_most leaf (other ∷ leaves) = at (slice_cmp nat_cmp leaf.name other.name) (length_put_most leaf leaves)
  where
    at : (o : Ordering) → length (put leaf leaves) ≤ length leaves + 1
        → length (match_ordering o (leaf ∷ other ∷ leaves) (leaf ∷ leaves) (other ∷ put leaf leaves)) ≤ suc (length leaves) + 1
    at Less h = omega arith
    at Equal h = omega arith
    at Greater h = omega arith

stays_taken : (a b : Bool) → not b ≡ false → not (a || b) ≡ false
stays_taken true b h = refl
stays_taken false b h = h

-- numbers that are taken stay so
pub AreTaken-put : (leaf : Leaf) (leaves : List Leaf) (beginning : List ℕ) (n : ℕ) → AreTaken leaves beginning n → AreTaken (put leaf leaves) beginning n
AreTaken-put leaf leaves beginning n taken m h =
    rw (any_put (is_within (child beginning (decimal m))) leaf leaves) (stays_taken (is_within (child beginning (decimal m)) leaf.name) _ (taken m h))

-- a reading to which a leaf was added is an index
pub IsIndex-put : (old new : Reading) (leaf : Leaf) → IsIndex old → is_leaf_utf8 leaf ≡ true → leaves_in new ≡ put leaf (leaves_in old)
    → ((q : List ℕ) → has_map new q ≡ (has_map old q || is_below q leaf.name))
    → ((q : List ℕ) → next_of new q ≡ next_of old q)
    → IsIndex new
IsIndex-put old new leaf index utf8 leaves maps next = record {
  maps = λ q. maps q ∙ rw (leaves, any_put (is_below q) leaf (leaves_in old), index.maps q) (or_same (list_any (λ (l : Leaf). is_below q l.name) (leaves_in old)) (is_below q leaf.name));
  taken = λ q. rw (leaves, next q) (AreTaken-put leaf (leaves_in old) q (next_of old q) (index.taken q));
  small = λ q. rw (leaves, next q) (omega (arith, index.small q, length_put leaf (leaves_in old)));
  utf8 = rw leaves (all_put is_leaf_utf8 leaf (leaves_in old) utf8 index.utf8);
}

is_some_set : (s : Bool) (n : ℕ) (o : Option ℕ) (b : Bool) → (s ≡ true → is_some o ≡ true) → is_some (cond s (Some n) o) ≡ is_some o
is_some_set true n o b f = sym (f refl)
is_some_set false n o b f = refl

next_by : (s : Bool) (n : ℕ) (o : Option ℕ) → unwrap_or (cond s (Some n) o) 0 ≡ cond s n (unwrap_or o 0)
next_by true n o = refl
next_by false n o = refl

on_cond : (P : ℕ → Type 0) (s : Bool) (a b : ℕ) → (s ≡ true → P a) → P b → P (cond s a b)
on_cond P true a b f g = f refl
on_cond P false a b f g = g

-- a reading whose map at a name was given its number is an index
pub IsIndex-set : (old new : Reading) (name : List ℕ) (n : ℕ) → IsIndex old → new.leaves ≡ old.leaves → IsSet old.maps new.maps name n
    → has_map old name ≡ true → AreTaken (leaves_in old) name n → n ≤ length (leaves_in old)
    → IsIndex new
IsIndex-set old new name n index leaves set has taken small = record {
  maps = λ q.
      ap is_some (set q)
      ∙ is_some_set (bytes_eq q name) n (at_name old.maps q) true (λ e. ap (has_map old) ((bytes_decides q name).0 e) ∙ has)
      ∙ index.maps q ∙ ap (λ ls. list_any (λ (leaf : Leaf). is_below q leaf.name) ls) (sym same);
  taken = λ q. subst (AreTaken (leaves_in new) q) (sym (next q)) (subst (λ ls. AreTaken ls q (cond (bytes_eq q name) n (next_of old q))) (sym same)
      (on_cond (AreTaken (leaves_in old) q) (bytes_eq q name) n (next_of old q)
      (λ e. subst (λ t. AreTaken (leaves_in old) t n) (sym ((bytes_decides q name).0 e)) taken) (index.taken q)));
  small = λ q. subst (λ k. k ≤ length (leaves_in new)) (sym (next q)) (subst (λ ls. cond (bytes_eq q name) n (next_of old q) ≤ length ls) (sym same)
      (on_cond (λ k. k ≤ length (leaves_in old)) (bytes_eq q name) n (next_of old q) (λ e. small) (index.small q)));
  utf8 = subst (λ ls. list_all is_leaf_utf8 ls ≡ true) (sym same) index.utf8;
}
  where
    same : leaves_in new ≡ leaves_in old
    same = ap (λ m. map leaf_of m.entries) leaves

    next : (q : List ℕ) → next_of new q ≡ cond (bytes_eq q name) n (next_of old q)
    next = λ q. ap (λ o. unwrap_or o 0) (set q) ∙ next_by (bytes_eq q name) n (at_name old.maps q)
