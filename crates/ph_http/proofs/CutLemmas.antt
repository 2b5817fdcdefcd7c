-- Where heads end.
use Rattle.std.proofs.Common.{◌≡◌, ◌≢◌, ℕ, suc, ◌+◌, ◌-◌, ◌<◌, ◌≤◌, Bool, true, false, ◌&&◌, ◌==◌, cond, nat_lt, List, [], ◌∷◌, ◌++◌, length, take, drop, get_or, Option, Some, None, refl, sym, ap, ◌∙◌, arith}
use Rattle.std.specs.Option.{option_map}
use Rattle.std.proofs.lemmas.List.{drop_more, take_rest, length-drop, drop-append-le}
use Rattle.std.proofs.lemmas.Bool.Decides.{nat_tests}
use Rattle.ph_http.specs.Cut.{is_newline, leading, empty_line, to_empty_line, head_len}

map_map : (o : Option ℕ) (i : ℕ) → option_map (λ (n : ℕ). n + i) (option_map (λ (n : ℕ). n + 1) o) ≡ option_map (λ (n : ℕ). n + (i + 1)) o
map_map None i = refl
map_map (Some n) i = ap Some (omega arith)

-- one byte on, where no empty line follows it
pub step_on : (bytes : List ℕ) (i : ℕ) → i < length bytes → (get_or bytes i 0 == 10 && nat_lt 0 (empty_line (drop (i + 1) bytes))) ≡ false → option_map (λ (n : ℕ). n + (i + 1)) (to_empty_line (drop (i + 1) bytes)) ≡ option_map (λ (n : ℕ). n + i) (to_empty_line (drop i bytes))
step_on bytes i l h = rw (drop_more bytes i 0 l, h) (sym (map_map (to_empty_line (drop (i + 1) bytes)) i))

pub not_ten : (bytes : List ℕ) (i : ℕ) → get_or bytes i 0 ≢ 10 → (get_or bytes i 0 == 10 && nat_lt 0 (empty_line (drop (i + 1) bytes))) ≡ false
not_ten bytes i h = let e : (get_or bytes i 0 == 10) ≡ false = grind (arith, nat_tests) in rw e refl

pub no_line : (bytes : List ℕ) (i n : ℕ) → n ≡ empty_line (take (length bytes - (i + 1)) (drop (i + 1) bytes)) → n ≤ 0 → (get_or bytes i 0 == 10 && nat_lt 0 (empty_line (drop (i + 1) bytes))) ≡ false
no_line bytes i n e z =
    let m : n ≡ empty_line (drop (i + 1) bytes) = e ∙ ap empty_line (take_rest bytes (i + 1)) in
    let f : nat_lt 0 (empty_line (drop (i + 1) bytes)) ≡ false = grind (arith, nat_tests) in
    rw f (and_false (get_or bytes i 0 == 10))
  where
    and_false : (b : Bool) → (b && false) ≡ false
    and_false true = refl
    and_false false = refl

-- ---- with more bytes behind

empty_more : (xs q : List ℕ) → 0 < empty_line xs → empty_line (xs ++ q) ≡ empty_line xs
empty_more [] q h = absurd (omega arith)
empty_more (x ∷ []) [] h = refl
empty_more (x ∷ []) (c ∷ q) h = ten (x == 10) (x == 13 && c == 10) h
  where
    ten : (a b : Bool) → 0 < cond a 1 0 → ◌≡◌ {A = ℕ} (cond a 1 (cond b 2 0)) (cond a 1 0)
    ten true b h = refl
    ten false b h = absurd (omega arith)
empty_more (x ∷ c ∷ xs) q h = refl

-- where an empty line comes, what stands before it isn't its beginning
empty_kept : (xs q : List ℕ) (m : ℕ) → to_empty_line xs ≡ Some m → empty_line (xs ++ q) ≡ empty_line xs
empty_kept [] q m h = absurd cc
empty_kept (x ∷ []) q m h = absurd (none (x == 10) h)
  where
    none : (a : Bool) → cond (a && false) (Some (0 + 1)) None ≡ Some m → ⊥
    none true h = cc
    none false h = cc
empty_kept (x ∷ c ∷ xs) q m h = refl

pub to_empty_more : (xs q : List ℕ) (m : ℕ) → to_empty_line xs ≡ Some m → to_empty_line (xs ++ q) ≡ Some m
to_empty_more [] q m h = absurd cc
to_empty_more (b ∷ xs) q m h = at (to_empty_more xs q) (b == 10) (nat_lt 0 (empty_line xs)) refl h
  where
    later : (o : Option ℕ) → o ≡ to_empty_line xs → option_map (λ (n : ℕ). n + 1) o ≡ Some m → (k : ℕ) × (to_empty_line xs ≡ Some k) × (k + 1 ≡ m)
    later None e h = absurd cc
    later (Some k) e h = (k, sym e, cc)

    at : ((k : ℕ) → to_empty_line xs ≡ Some k → to_empty_line (xs ++ q) ≡ Some k) → (t l : Bool) → l ≡ nat_lt 0 (empty_line xs) → cond (t && l) (Some (empty_line xs + 1)) (option_map (λ (n : ℕ). n + 1) (to_empty_line xs)) ≡ Some m → cond (t && nat_lt 0 (empty_line (xs ++ q))) (Some (empty_line (xs ++ q) + 1)) (option_map (λ (n : ℕ). n + 1) (to_empty_line (xs ++ q))) ≡ Some m
    at rest true true e h = let p : 0 < empty_line xs = grind (arith, nat_tests) in rw (empty_more xs q p, ← e) h
    at rest true false e h = let k = later (to_empty_line xs) refl h in rw (empty_kept xs q k.0 k.1, ← e, rest k.0 k.1) (ap Some k.2)
    at rest false l e h = let k = later (to_empty_line xs) refl h in rw (rest k.0 k.1) (ap Some k.2)

leading_more : (xs q : List ℕ) → leading xs < length xs → leading (xs ++ q) ≡ leading xs
leading_more [] q h = absurd (omega arith)
leading_more (b ∷ xs) q h = at (leading_more xs q) (is_newline b) h
  where
    at : (leading xs < length xs → leading (xs ++ q) ≡ leading xs) → (t : Bool) → cond t (leading xs + 1) 0 < suc (length xs) → cond t (leading (xs ++ q) + 1) 0 ≡ cond t (leading xs + 1) 0
    at rest true h = ap (λ (n : ℕ). n + 1) (rest (omega arith))
    at rest false h = refl

pub leading_within : (xs : List ℕ) → leading xs ≤ length xs
leading_within [] = omega arith
leading_within (b ∷ xs) = at (leading_within xs) (is_newline b)
  where
    at : leading xs ≤ length xs → (t : Bool) → cond t (leading xs + 1) 0 ≤ suc (length xs)
    at h true = omega arith
    at h false = omega arith

-- a head, and the empty line that ends it
record Found (xs : List ℕ) (n : ℕ) : Type 0 where
  m : ℕ
  line : to_empty_line (drop (leading xs) xs) ≡ Some m
  sum : n ≡ m + leading xs
  inside : leading xs < length xs

found : (xs : List ℕ) (n : ℕ) → head_len xs ≡ Some n → Found xs n
unfolding head_len
found xs n h = at (to_empty_line (drop (leading xs) xs)) refl h
  where
    at : (o : Option ℕ) → to_empty_line (drop (leading xs) xs) ≡ o → option_map (λ (k : ℕ). k + leading xs) o ≡ Some n → Found xs n
    at None e h = absurd cc
    at (Some m) e h = record { m = m; line = e; sum = cc; inside = more (drop (leading xs) xs) refl e }
      where
        more : (r : List ℕ) → drop (leading xs) xs ≡ r → to_empty_line r ≡ Some m → leading xs < length xs
        more [] d t = absurd cc
        more (b ∷ r) d t = let l = ap length d in let k = length-drop (leading xs) xs in omega arith

pub head_more : (xs q : List ℕ) (n : ℕ) → head_len xs ≡ Some n → head_len (xs ++ q) ≡ Some n
unfolding head_len
head_more xs q n h =
    let f = found xs n h in
    let a = leading_more xs q f.inside in
    let d : drop (leading xs) (xs ++ q) ≡ drop (leading xs) xs ++ q = drop-append-le (leading xs) xs q (omega (arith, f.inside)) in
    rw (a, d, to_empty_more (drop (leading xs) xs) q f.m f.line) (ap Some (sym f.sum))

to_empty_within : (xs : List ℕ) (m : ℕ) → to_empty_line xs ≡ Some m → m ≤ length xs
to_empty_within [] m h = absurd cc
to_empty_within (b ∷ xs) m h = at (to_empty_within xs) (b == 10 && nat_lt 0 (empty_line xs)) h
  where
    line_within : (ys : List ℕ) → empty_line ys ≤ length ys
    line_within [] = omega arith
    line_within (x ∷ []) = one (x == 10)
      where
        one : (a : Bool) → cond a 1 0 ≤ 1
        one true = omega arith
        one false = omega arith
    line_within (x ∷ c ∷ ys) = two (x == 10) (x == 13 && c == 10)
      where
        two : (a b : Bool) → cond a 1 (cond b 2 0) ≤ suc (suc (length ys))
        two true b = omega arith
        two false true = omega arith
        two false false = omega arith

    at : ((k : ℕ) → to_empty_line xs ≡ Some k → k ≤ length xs) → (t : Bool) → cond t (Some (empty_line xs + 1)) (option_map (λ (n : ℕ). n + 1) (to_empty_line xs)) ≡ Some m → m ≤ suc (length xs)
    at rest true h = let e : empty_line xs + 1 ≡ m = cc in let w = line_within xs in omega arith
    at rest false h = later (to_empty_line xs) refl h
      where
        later : (o : Option ℕ) → to_empty_line xs ≡ o → option_map (λ (n : ℕ). n + 1) o ≡ Some m → m ≤ suc (length xs)
        later None e h = absurd cc
        later (Some k) e h = let w = rest k e in let s : k + 1 ≡ m = cc in omega arith

pub head_within : (xs : List ℕ) (n : ℕ) → head_len xs ≡ Some n → n ≤ length xs
head_within xs n h = let f = found xs n h in let w = to_empty_within (drop (leading xs) xs) f.m f.line in let s = f.sum in let d = length-drop (leading xs) xs in let i = f.inside in omega arith

-- ---- a head has bytes

line_some : (xs : List ℕ) (m : ℕ) → to_empty_line xs ≡ Some m → 0 < m
line_some [] m h = absurd cc
line_some (b ∷ xs) m h = at (b == 10 && nat_lt 0 (empty_line xs)) (to_empty_line xs) h
  where
    at : (t : Bool) (o : Option ℕ) → cond t (Some (empty_line xs + 1)) (option_map (λ (n : ℕ). n + 1) o) ≡ Some m → 0 < m
    at true o h = let e : empty_line xs + 1 ≡ m = cc in omega arith
    at false None h = absurd cc
    at false (Some k) h = let e : k + 1 ≡ m = cc in omega arith

pub head_some : (xs : List ℕ) (n : ℕ) → head_len xs ≡ Some n → 0 < n
unfolding head_len
head_some xs n h = at (to_empty_line (drop (leading xs) xs)) refl h
  where
    at : (o : Option ℕ) → to_empty_line (drop (leading xs) xs) ≡ o → option_map (λ (k : ℕ). k + leading xs) o ≡ Some n → 0 < n
    at None e h = absurd cc
    at (Some m) e h = let p = line_some (drop (leading xs) xs) m e in let s : m + leading xs ≡ n = cc in omega arith
