use Rattle.std.proofs.Common.{◌≡◌, ℕ, ◌<◌, suc, zero, Bool, true, false, ◌&&◌, not, cond, bytes_eq, List, [], ◌∷◌, ◌++◌, length, get_or, take, drop, Ordering, sym, refl, ap, ◌∙◌, arith}
use Rattle.std.specs.List.{filter}
use Rattle.std.specs.Ordering.{is_lt, ordering_reverse}
use Rattle.std.specs.declared.cmp.Ordering.TheVariants.{Less, Equal, Greater}
use Rattle.std.proofs.lemmas.Cmp.{nat_list_cmp_total}
use Rattle.std.proofs.Math.Seq.{drop-cons}
use Rattle.std.specs.Prelude.{slice_set}
use Rattle.ph_items.specs.declared.metadata_pairs.MetadataPair.{MetadataPair}
use Rattle.ph_items.specs.Metadata.{name_cmp, is_before, are_ordered, placed_pair, with_pair, without_pair}

-- both tests pass where one and the other do
both : (a b : Bool) → a ≡ true → b ≡ true → (a && b) ≡ true
both true true p q = refl
both true false p q = q
both false b p q = p

-- of two tests that pass, the first and the second
first_of : (a b : Bool) → (a && b) ≡ true → a ≡ true
first_of true b p = refl
first_of false b p = p

second_of : (a b : Bool) → (a && b) ≡ true → b ≡ true
second_of true b p = p
second_of false b p = absurd (cc)

-- an order that is below is Less
is_less : (o : Ordering) → is_lt o ≡ true → o ≡ Less
is_less Less h = refl
is_less Equal h = absurd (cc)
is_less Greater h = absurd (cc)

-- a name that is after another stands behind it
behind : (first second : List ℕ) → name_cmp first second ≡ Greater → is_lt (name_cmp second first) ≡ true
behind first second h = ap is_lt (nat_list_cmp_total.antisymm second first ∙ ap ordering_reverse h)

-- equal names stand alike before the others
alike : (first second : List ℕ) (pairs : List MetadataPair) → name_cmp first second ≡ Equal
    → is_before second pairs ≡ true → is_before first pairs ≡ true
alike first second [] e h = refl
alike first second (pair ∷ pairs) e h = ap is_lt (nat_list_cmp_total.congr first second pair.key e) ∙ h

-- a name that stands before a pair and the others stands before them with the pair put in
before_with : (name : List ℕ) (new : MetadataPair) (pairs : List MetadataPair) → name_cmp new.key name ≡ Greater
    → is_before name pairs ≡ true → is_before name (with_pair new pairs) ≡ true
before_with name new [] above h = behind new.key name above
before_with name new (pair ∷ pairs) above h = at (name_cmp new.key pair.key)
  where
    at : (o : Ordering) → is_before name (placed_pair o new pair pairs (with_pair new pairs)) ≡ true
    at Less = behind new.key name above
    at Equal = behind new.key name above
    at Greater = h

-- ordered pairs stay ordered with one more
pub stays_ordered : (new : MetadataPair) (pairs : List MetadataPair) → are_ordered pairs ≡ true
    → are_ordered (with_pair new pairs) ≡ true
stays_ordered new [] h = refl
stays_ordered new (pair ∷ pairs) h = at (stays_ordered new pairs (second_of (is_before pair.key pairs) (are_ordered pairs) h)) (name_cmp new.key pair.key) refl
  where
    at : are_ordered (with_pair new pairs) ≡ true → (o : Ordering) → name_cmp new.key pair.key ≡ o
        → are_ordered (placed_pair o new pair pairs (with_pair new pairs)) ≡ true
    at further Less e = both (is_lt (name_cmp new.key pair.key)) (are_ordered (pair ∷ pairs)) (ap is_lt e) h
    at further Equal e = both (is_before new.key pairs) (are_ordered pairs) (alike new.key pair.key pairs e (first_of (is_before pair.key pairs) (are_ordered pairs) h)) (second_of (is_before pair.key pairs) (are_ordered pairs) h)
    at further Greater e = both (is_before pair.key (with_pair new pairs)) (are_ordered (with_pair new pairs)) (before_with pair.key new pairs e (first_of (is_before pair.key pairs) (are_ordered pairs) h)) further

-- a pair put in the place of another
set_at : (pairs : List MetadataPair) (place : ℕ) (new : MetadataPair) → place < length pairs
    → slice_set pairs place new ≡ take place pairs ++ new ∷ drop (suc place) pairs
set_at [] place new h = absurd (omega arith)
set_at (pair ∷ pairs) zero new h = refl
set_at (pair ∷ pairs) (suc place) new h = ap (λ others. pair ∷ others) (set_at pairs place new (omega arith))

-- a pair put in the place of the one of its name
pub replaced : (new : MetadataPair) (pairs : List MetadataPair) (place : ℕ) (pair : MetadataPair)
    → place < length pairs → pair ≡ get_or pairs place pair → name_cmp new.key pair.key ≡ Equal
    → with_pair new pairs ≡ take place pairs ++ with_pair new (drop place pairs) → slice_set pairs place new ≡ with_pair new pairs
replaced new pairs place pair within here same further =
    let rest : List MetadataPair = drop (suc place) pairs in
    let cell : drop place pairs ≡ pair ∷ rest = drop-cons pairs place pair within ∙ ap (λ (p : MetadataPair). p ∷ rest) (sym here) in
    let at : with_pair new (drop place pairs) ≡ new ∷ rest = ap (with_pair new) cell ∙ ap (λ (o : Ordering). placed_pair o new pair rest (with_pair new rest)) same in
    set_at pairs place new within ∙ ap (λ (others : List MetadataPair). take place pairs ++ others) (sym at) ∙ sym further

-- a name that stands before a pair and the others stands before the others
before_others : (name : List ℕ) (pair : MetadataPair) (pairs : List MetadataPair) → is_lt (name_cmp name pair.key) ≡ true
    → is_before pair.key pairs ≡ true → is_before name pairs ≡ true
before_others name pair [] h others = refl
before_others name pair (next ∷ pairs) h others =
    ap is_lt (nat_list_cmp_total.trans name pair.key next.key (is_less (name_cmp name pair.key) h) (is_less (name_cmp pair.key next.key) others))

-- a name that stands before ordered pairs stands before those of them that pass a test
before_kept : (test : MetadataPair → Bool) (name : List ℕ) (pairs : List MetadataPair) → is_before name pairs ≡ true
    → are_ordered pairs ≡ true → is_before name (filter test pairs) ≡ true
before_kept test name [] h ordered = refl
before_kept test name (pair ∷ pairs) h ordered =
    at (before_kept test name pairs
    (before_others name pair pairs h (first_of (is_before pair.key pairs) (are_ordered pairs) ordered))
    (second_of (is_before pair.key pairs) (are_ordered pairs) ordered))
    (test pair)
  where
    at : is_before name (filter test pairs) ≡ true → (b : Bool)
        → is_before name (cond b (pair ∷ filter test pairs) (filter test pairs)) ≡ true
    at others true = h
    at others false = others

-- of ordered pairs those that pass a test are ordered
kept_ordered : (test : MetadataPair → Bool) (pairs : List MetadataPair) → are_ordered pairs ≡ true
    → are_ordered (filter test pairs) ≡ true
kept_ordered test [] ordered = refl
kept_ordered test (pair ∷ pairs) ordered = at (kept_ordered test pairs others) (test pair)
  where
    others : are_ordered pairs ≡ true
    others = second_of (is_before pair.key pairs) (are_ordered pairs) ordered

    at : are_ordered (filter test pairs) ≡ true → (b : Bool)
        → are_ordered (cond b (pair ∷ filter test pairs) (filter test pairs)) ≡ true
    at further true = both (is_before pair.key (filter test pairs)) (are_ordered (filter test pairs))
        (before_kept test pair.key pairs (first_of (is_before pair.key pairs) (are_ordered pairs) ordered) others) further
    at further false = further

-- ordered pairs stay ordered without one
pub stays_ordered_without : (name : List ℕ) (pairs : List MetadataPair) → are_ordered pairs ≡ true
    → are_ordered (without_pair name pairs) ≡ true
stays_ordered_without name pairs ordered = kept_ordered (λ pair. not (bytes_eq pair.key name)) pairs ordered
