-- The keys of a name are those that stand in brackets, one after another, behind its base.
use Rattle.std.proofs.Common.{◌≡◌, ◌↔◌, ◌∙◌, ℕ, ◌==◌, ◌||◌, Bool, true, false, cond, List, [], ◌∷◌, ◌++◌, Some, None, refl, sym, subst, arith}
use Rattle.std.proofs.lemmas.Bool.{false≢true}
use Rattle.std.proofs.lemmas.Bool.Decides.{nat_tests}
use Rattle.std.proofs.lemmas.List.{append-nil, append_assoc}
use Rattle.std.specs.List.{list_any}
use Rattle.ph_form.specs.Names.{AreKeys, has_bracket, in_brackets, is_bracket, keys_from, keys_of, tail_of}

neither : (a b : Bool) → (a || b) ≡ false → (a ≡ false) × (b ≡ false)
neither true b h = absurd (false≢true (sym h))
neither false b h = (refl, h)

same : (m n : ℕ) → (m == n) ≡ true → m ≡ n
same m n e = grind (arith, nat_tests)

-- a key that is open is read to its `]`
closed : (keys : List (List ℕ)) (part key rest : List ℕ) → has_bracket key ≡ false
    → keys_from keys true part (key ++ (93 ∷ rest)) ≡ keys_from (keys ++ ((part ++ key) ∷ [])) false [] rest
closed keys part [] rest h = rw (append-nil part) refl
closed keys part (b ∷ key) rest h =
    let one = neither (is_bracket b) (has_bracket key) h in
    let which = neither (b == 91) (b == 93) one.0 in
    rw (which.1, which.0) (rw (append_assoc part (b ∷ []) key) at (closed keys (part ++ (b ∷ [])) key rest one.1))

-- keys in brackets are read whole
all_read : (keys further : List (List ℕ)) (key : List ℕ) → list_any has_bracket further ≡ false
    → keys_from keys false key (in_brackets further) ≡ Some (keys ++ further)
all_read keys [] key h = rw (append-nil keys) refl
all_read keys (next ∷ further) key h =
    let one = neither (has_bracket next) (list_any has_bracket further) h in
    closed keys [] next (in_brackets further) one.0
    ∙ (rw (append_assoc keys (next ∷ []) further) at (all_read (keys ++ (next ∷ [])) further [] one.1))

-- what is left of a text, outside brackets or within them, whose keys are read
abbrev IsLeft : Bool → List (List ℕ) → List ℕ → List ℕ → List (List ℕ) → Type 0
IsLeft false keys part text all = (further : List (List ℕ)) × (all ≡ keys ++ further) × AreKeys further text
IsLeft true keys part text all =
    (key : List ℕ) × (further : List (List ℕ)) × (all ≡ keys ++ ((part ++ key) ∷ further)) × (text ≡ key ++ (93 ∷ in_brackets further))
    × (has_bracket key ≡ false) × (list_any has_bracket further ≡ false)

left : (text : List ℕ) (within : Bool) (keys : List (List ℕ)) (part : List ℕ) (all : List (List ℕ))
    → keys_from keys within part text ≡ Some all → IsLeft within keys part text all
left [] false keys part all e =
    let same_keys : all ≡ keys = cc in
    ([], rw (append-nil keys) same_keys, (refl, refl))
left [] true keys part all e = absurd (let wrong : None ≡ Some all = e in cc)
left (b ∷ text) false keys part all e = opened (b == 91) refl e (left text true keys [] all)
  where
    opened : (t : Bool) → (b == 91) ≡ t → cond t (keys_from keys true [] text) None ≡ Some all
        → (keys_from keys true [] text ≡ Some all → IsLeft true keys [] text all) → IsLeft false keys part (b ∷ text) all
    opened true is e more =
        let l = more e in
        (l.0 ∷ l.1, l.2, (rw (same b 91 is, l.3) refl, rw (l.4, l.5) refl))
    opened false is e more = absurd (let wrong : None ≡ Some all = e in cc)
left (b ∷ text) true keys part all e =
    inside (b == 93) (b == 91) refl refl e (left text false (keys ++ (part ∷ [])) [] all) (left text true keys (part ++ (b ∷ [])) all)
  where
    inside : (t u : Bool) → (b == 93) ≡ t → (b == 91) ≡ u
        → cond t (keys_from (keys ++ (part ∷ [])) false [] text) (cond u None (keys_from keys true (part ++ (b ∷ [])) text)) ≡ Some all
        → (keys_from (keys ++ (part ∷ [])) false [] text ≡ Some all → IsLeft false (keys ++ (part ∷ [])) [] text all)
        → (keys_from keys true (part ++ (b ∷ [])) text ≡ Some all → IsLeft true keys (part ++ (b ∷ [])) text all)
        → IsLeft true keys part (b ∷ text) all
    inside true u closes opens e end more =
        let l = end e in
        ([], l.0, rw (append-nil part) (rw (append_assoc keys (part ∷ []) l.0) at l.1), rw (same b 93 closes, l.2.0) refl, refl, l.2.1)
    inside false true closes opens e end more = absurd (let wrong : None ≡ Some all = e in cc)
    inside false false closes opens e end more =
        let l = more e in
        (b ∷ l.0, l.1, rw (append_assoc part (b ∷ []) l.0) at l.2, rw l.3 refl, rw (opens, closes, l.4) refl, l.5)

-- the keys of a name
pub keys_in_brackets : (name : List ℕ) (keys : List (List ℕ)) → (keys_of name ≡ Some keys) ↔ AreKeys keys (tail_of name)
keys_in_brackets name keys = (there, back)
  where
    there : keys_of name ≡ Some keys → AreKeys keys (tail_of name)
    there e =
        let l = left (tail_of name) false [] [] keys e in
        subst (λ found. AreKeys found (tail_of name)) (sym l.1) l.2

    back : AreKeys keys (tail_of name) → keys_of name ≡ Some keys
    back h = rw h.0 (all_read [] keys [] h.1)
