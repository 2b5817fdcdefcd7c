-- The least free number is free: each leaf takes at most one number below a beginning.
use Rattle.std.proofs.Common.{◌≡◌, ℕ, zero, suc, ◌+◌, ◌<◌, ◌≤◌, ◌^◌, ◌%◌, ◌||◌, ◌==◌, ◌⊎◌, not, Bool, true, false, cond, List, [], ◌∷◌, ◌++◌, length, refl, sym, ◌∙◌, subst, inl, inr, bytes_eq, append-nil, arith}
use Rattle.std.proofs.lemmas.Bool.Decides.{nat_tests}
use Rattle.std.proofs.lemmas.Fmt.{decimal_by_steps, decimal_injective}
use Rattle.std.proofs.lemmas.List.{append_assoc}
use Rattle.std.specs.Cmp.Lexicographic.{bytes_decides}
use Rattle.std.specs.Fmt.{decimal}
use Rattle.std.specs.List.{list_any}
use Rattle.ph_form.specs.declared.leaf.Leaf.{Leaf}
use Rattle.ph_form.specs.Leaves.{is_free, free_from, least_free}
use Rattle.ph_form.specs.Names.{child, is_below, is_within}
use Rattle.ph_form.specs.Readers.{rest_after}
use Rattle.ph_form.proofs.Utf8Lemmas.{below_is}

-- ---- how many numbers below k pass

abbrev count : (ℕ → Bool) → ℕ → ℕ
count p zero = 0
count p (suc k) = cond (p k) 1 0 + count p k

count_none : (p : ℕ → Bool) (k : ℕ) → ((n : ℕ) → n < k → p n ≡ false) → count p k ≡ 0
count_none p zero h = refl
count_none p (suc k) h = rw (h k (omega arith), count_none p k (λ n l. h n (omega arith))) refl

count_all : (p : ℕ → Bool) (k : ℕ) → ((n : ℕ) → n < k → p n ≡ true) → count p k ≡ k
count_all p zero h = refl
count_all p (suc k) h = rw (h k (omega arith), count_all p k (λ n l. h n (omega arith))) (omega arith)

count_once : (p : ℕ → Bool) (k : ℕ) → ((m n : ℕ) → m < k → n < k → p m ≡ true → p n ≡ true → m ≡ n) → count p k ≤ 1
count_once p zero h = omega arith
count_once p (suc k) h = at (p k) refl (count_once p k (λ m n a b. h m n (omega arith) (omega arith)))
  where
    only : (b : Bool) (n : ℕ) → p n ≡ b → n < k → p k ≡ true → p n ≡ false
    only false n e a f = e
    only true n e a f = absurd (let same : n ≡ k = h n k (omega arith) (omega arith) e f in omega (arith, same))

    at : (b : Bool) → p k ≡ b → count p k ≤ 1 → cond b 1 0 + count p k ≤ 1
    at false e l = omega arith
    at true e l = let none : count p k ≡ 0 = count_none p k (λ n a. only (p n) n refl a e) in omega (arith, none)

count_or : (p q : ℕ → Bool) (k : ℕ) → count (λ n. p n || q n) k ≤ count p k + count q k
count_or p q zero = omega arith
count_or p q (suc k) = at (p k) (q k) (count_or p q k)
  where
    at : (a b : Bool) → count (λ n. p n || q n) k ≤ count p k + count q k
        → cond (a || b) 1 0 + count (λ n. p n || q n) k ≤ (cond a 1 0 + count p k) + (cond b 1 0 + count q k)
    at true true h = omega arith
    at true false h = omega arith
    at false true h = omega arith
    at false false h = omega arith

-- ---- a name continues a beginning with one number

abbrev HasNoEnd : List ℕ → Type 0
HasNoEnd text = list_any (λ b. b == 93) text ≡ false

no_end_more : (text : List ℕ) (b : ℕ) → HasNoEnd text → (b == 93) ≡ false → HasNoEnd (text ++ b ∷ [])
no_end_more [] b h e = rw e refl
no_end_more (c ∷ text) b h e = at (c == 93) h (no_end_more text b)
  where
    at : (t : Bool) → (t || list_any (λ b. b == 93) text) ≡ false → (HasNoEnd text → (b == 93) ≡ false → HasNoEnd (text ++ b ∷ []))
        → (t || list_any (λ b. b == 93) (text ++ b ∷ [])) ≡ false
    at true h more = h
    at false h more = more h e

digit_no_end : (d : ℕ) → d < 10 → ((48 + d) == 93) ≡ false
digit_no_end d h = grind (arith, nat_tests)

decimal_no_end : (n : ℕ) → n < 2 ^ 64 → HasNoEnd (decimal n)
decimal_no_end = decimal_by_steps (λ n ds. HasNoEnd ds)
    (λ n h. rw (digit_no_end n h) refl)
    (λ n ds h more. no_end_more ds (48 + n % 10) more (digit_no_end (n % 10) (omega arith)))

cancel : (front xs ys : List ℕ) → front ++ xs ≡ front ++ ys → xs ≡ ys
cancel [] xs ys e = e
cancel (x ∷ front) xs ys e = let tail : front ++ xs ≡ front ++ ys = cc in cancel front xs ys tail

end_is : (b : ℕ) (t : Bool) → ((b == 93) || t) ≡ false → b ≡ 93 → ⊥
end_is b t h e = at (b == 93) refl h
  where
    at : (s : Bool) → (b == 93) ≡ s → (s || t) ≡ false → ⊥
    at true f h = let wrong : true ≡ false = h in absurd (cc)
    at false f h = grind (arith, nat_tests)

same_key : (d e s t : List ℕ) → HasNoEnd d → HasNoEnd e → d ++ 93 ∷ s ≡ e ++ 93 ∷ t → d ≡ e
same_key [] [] s t p q h = refl
same_key [] (y ∷ e) s t p q h = let first : y ≡ 93 = cc in absurd (end_is y (list_any (λ b. b == 93) e) q first)
same_key (x ∷ d) [] s t p q h = let first : x ≡ 93 = cc in absurd (end_is x (list_any (λ b. b == 93) d) p first)
same_key (x ∷ d) (y ∷ e) s t p q h =
    let first : x ≡ y = cc in
    let rest : d ++ 93 ∷ s ≡ e ++ 93 ∷ t = cc in
    let more : d ≡ e = same_key d e s t (rest_ends x d p) (rest_ends y e q) rest in
    cc
  where
    rest_ends : (b : ℕ) (text : List ℕ) → HasNoEnd (b ∷ text) → HasNoEnd text
    rest_ends b text h = at (b == 93) h
      where
        at : (s : Bool) → (s || list_any (λ b. b == 93) text) ≡ false → HasNoEnd text
        at true h = absurd (let wrong : true ≡ false = h in cc)
        at false h = h

splits : (upper name : List ℕ) → is_within upper name ≡ true → (rest : List ℕ) × (name ≡ upper ++ rest)
splits upper name h = at (bytes_eq upper name) refl h
  where
    at : (b : Bool) → bytes_eq upper name ≡ b → (b || is_below upper name) ≡ true → (rest : List ℕ) × (name ≡ upper ++ rest)
    at true e h = ([], sym ((bytes_decides upper name).0 e) ∙ sym (append-nil upper))
    at false e h = (91 ∷ rest_after upper name, below_is upper name h)

one_number : (beginning name : List ℕ) (m n : ℕ) → m < 2 ^ 64 → n < 2 ^ 64
    → is_within (child beginning (decimal m)) name ≡ true → is_within (child beginning (decimal n)) name ≡ true → m ≡ n
one_number beginning name m n p q h k =
    let a = splits (child beginning (decimal m)) name h in
    let b = splits (child beginning (decimal n)) name k in
    let both : beginning ++ (91 ∷ (decimal m ++ 93 ∷ a.0)) ≡ beginning ++ (91 ∷ (decimal n ++ 93 ∷ b.0)) =
    sym (opened (decimal m) a.0) ∙ sym a.1 ∙ b.1 ∙ opened (decimal n) b.0 in
    let behind : 91 ∷ (decimal m ++ 93 ∷ a.0) ≡ 91 ∷ (decimal n ++ 93 ∷ b.0) = cancel beginning _ _ both in
    let keys : decimal m ++ 93 ∷ a.0 ≡ decimal n ++ 93 ∷ b.0 = cc in
    decimal_injective m n p q (same_key (decimal m) (decimal n) a.0 b.0 (decimal_no_end m p) (decimal_no_end n q) keys)
  where
    opened : (d r : List ℕ) → child beginning d ++ r ≡ beginning ++ (91 ∷ (d ++ 93 ∷ r))
    opened d r = simp append_assoc

-- ---- so a free one is left

taken_most : (leaves : List Leaf) (beginning : List ℕ) (k : ℕ) → k < 2 ^ 64
    → count (λ n. list_any (λ leaf. is_within (child beginning (decimal n)) leaf.name) leaves) k ≤ length leaves
taken_most [] beginning k h = let none = count_none (λ n. false) k (λ n l. refl) in omega (arith, none)
taken_most (leaf ∷ leaves) beginning k h =
    omega (
      arith,
      count_or (λ n. is_within (child beginning (decimal n)) leaf.name) (λ n. list_any (λ l. is_within (child beginning (decimal n)) l.name) leaves) k,
      count_once (λ n. is_within (child beginning (decimal n)) leaf.name) k (λ m n a b. one_number beginning leaf.name m n (omega arith) (omega arith)),
      taken_most leaves beginning k h,
    )

-- the numbers from n up to the one that was found are taken
before_found : (leaves : List Leaf) (beginning : List ℕ) (n count : ℕ) (m : ℕ) → n ≤ m → m < free_from leaves beginning n count → is_free leaves beginning m ≡ false
before_found leaves beginning n zero m p q = absurd (omega arith)
before_found leaves beginning n (suc count) m p q = at (is_free leaves beginning n) refl q (before_found leaves beginning (n + 1) count m)
  where
    at : (b : Bool) → is_free leaves beginning n ≡ b → m < cond b n (free_from leaves beginning (n + 1) count)
        → (n + 1 ≤ m → m < free_from leaves beginning (n + 1) count → is_free leaves beginning m ≡ false) → is_free leaves beginning m ≡ false
    at true e q more = absurd (omega arith)
    at false e q more = here (n == m) refl
      where
        here : (s : Bool) → (n == m) ≡ s → is_free leaves beginning m ≡ false
        here true f = let same : n ≡ m = grind (arith, nat_tests) in subst (λ k. is_free leaves beginning k ≡ false) same e
        here false f = let past : n + 1 ≤ m = grind (arith, nat_tests) in more past q

found_or_last : (leaves : List Leaf) (beginning : List ℕ) (n count : ℕ)
    → (is_free leaves beginning (free_from leaves beginning n count) ≡ true) ⊎ (free_from leaves beginning n count ≡ n + count)
found_or_last leaves beginning n zero = inr (omega arith)
found_or_last leaves beginning n (suc count) = at (is_free leaves beginning n) refl (found_or_last leaves beginning (n + 1) count)
  where
    at : (b : Bool) → is_free leaves beginning n ≡ b
        → (is_free leaves beginning (free_from leaves beginning (n + 1) count) ≡ true) ⊎ (free_from leaves beginning (n + 1) count ≡ n + 1 + count)
        → (is_free leaves beginning (cond b n (free_from leaves beginning (n + 1) count)) ≡ true) ⊎ (cond b n (free_from leaves beginning (n + 1) count) ≡ n + suc count)
    at true e more = inl e
    at false e (inl f) = inl f
    at false e (inr f) = inr (omega (arith, f))

-- the least free number is free, and those in front of it are taken
pub least_is_free : (leaves : List Leaf) (beginning : List ℕ) → length leaves < 2 ^ 63
    → (is_free leaves beginning (least_free leaves beginning) ≡ true) × ((n : ℕ) → n < least_free leaves beginning → is_free leaves beginning n ≡ false)
least_is_free leaves beginning small = (at (found_or_last leaves beginning 0 (length leaves)), λ n h. before_found leaves beginning 0 (length leaves) n (omega arith) h)
  where
    taken : ℕ → Bool
    taken = λ n. list_any (λ leaf. is_within (child beginning (decimal n)) leaf.name) leaves

    flip : (b : Bool) → not b ≡ false → b ≡ true
    flip true h = refl
    flip false h = absurd (let wrong : true ≡ false = h in cc)

    full : least_free leaves beginning ≡ length leaves → (b : Bool) → is_free leaves beginning (least_free leaves beginning) ≡ b
        → is_free leaves beginning (least_free leaves beginning) ≡ true
    full last true e = e
    full last false e =
        absurd (omega (
          arith,
          taken_most leaves beginning (suc (length leaves)) (omega arith),
          count_all taken (suc (length leaves)) (λ n h. flip (taken n) (each n (n == length leaves) refl h)),
        ))
      where
        each : (n : ℕ) (s : Bool) → (n == length leaves) ≡ s → n < suc (length leaves) → is_free leaves beginning n ≡ false
        each n true f h = let same : least_free leaves beginning ≡ n = grind (arith, nat_tests, last) in subst (λ k. is_free leaves beginning k ≡ false) same e
        each n false f h = let less : n < least_free leaves beginning = grind (arith, nat_tests, last) in before_found leaves beginning 0 (length leaves) n (omega arith) less

    at : (is_free leaves beginning (least_free leaves beginning) ≡ true) ⊎ (least_free leaves beginning ≡ 0 + length leaves)
        → is_free leaves beginning (least_free leaves beginning) ≡ true
    at (inl f) = f
    at (inr last) = full (omega (arith, last)) (is_free leaves beginning (least_free leaves beginning)) refl
