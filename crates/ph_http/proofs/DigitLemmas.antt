-- Numbers by their digits.
use Rattle.std.proofs.Common.{◌≡◌, ℕ, zero, suc, ◌+◌, ◌-◌, ◌*◌, ◌<◌, ◌≤◌, ◌&&◌, ◌==◌, not, nat_le, Bool, true, false, cond, min, List, [], ◌∷◌, length, drop, get_or, bytes_eq, Some, option_map, ◌||◌, refl, sym, ap, ◌∙◌, subst, arith}
use Rattle.std.specs.List.{find, list_all}
use Rattle.std.specs.Char.{is_ascii_digit}
use Rattle.std.proofs.lemmas.List.{drop_more, drop_all}
use Rattle.std.proofs.lemmas.Bool.Decides.{nat_tests}
use Rattle.std.proofs.lemmas.Slice.Eq.{bytes_eq-Decides}
use Rattle.ph_http.specs.Headers.{Headers, has_name, value_of, all_values}
use Rattle.ph_base.specs.Numbers.{decimal_from}
use Rattle.ph_http.specs.Digits.{is_number, number_of, is_same_number, without_zeros}

-- where both hold, each does
pub both_left : (a b : Bool) → (a && b) ≡ true → a ≡ true
both_left true b h = refl
both_left false b h = absurd cc

pub both_right : (a b : Bool) → (a && b) ≡ true → b ≡ true
both_right true b h = h
both_right false b h = absurd cc

-- ---- up to a cap

-- from numbers that the cap makes equal come equal ones
capped_from : (n m : ℕ) (text : List ℕ) → min n 65537 ≡ min m 65537 → min (decimal_from n text) 65537 ≡ min (decimal_from m text) 65537
capped_from n m [] h = h
capped_from n m (c ∷ text) h = capped_from (10 * n + (c - 48)) (10 * m + (c - 48)) text (step n m (c - 48) h)
  where
    step : (n m d : ℕ) → min n 65537 ≡ min m 65537 → min (10 * n + d) 65537 ≡ min (10 * m + d) 65537
    step n m d h = omega arith

pub step_number : (text : List ℕ) (i n k : ℕ) → i < length text → min (decimal_from n (drop i text)) 65537 ≡ k
    → min (decimal_from (min (10 * n + (get_or text i 0 - 48)) 65537) (drop (i + 1) text)) 65537 ≡ k
step_number text i n k l h =
    let whole : min (decimal_from (10 * n + (get_or text i 0 - 48)) (drop (i + 1) text)) 65537 ≡ k = rw (drop_more text i 0 l) at h in
    capped_from (min (10 * n + (get_or text i 0 - 48)) 65537) (10 * n + (get_or text i 0 - 48)) (drop (i + 1) text) (omega arith) ∙ whole

pub step_digits : (text : List ℕ) (i : ℕ) → i < length text → list_all is_ascii_digit (drop i text) ≡ true → list_all is_ascii_digit (drop (i + 1) text) ≡ true
step_digits text i l h = both_right (is_ascii_digit (get_or text i 0)) (list_all is_ascii_digit (drop (i + 1) text)) (rw (drop_more text i 0 l) at h)

pub whole_number : (text : List ℕ) (i n : ℕ) → length text ≤ i → n ≤ 65537 → min (decimal_from n (drop i text)) 65537 ≡ min (decimal_from 0 text) 65537 → n ≡ min (number_of text) 65537
unfolding number_of
whole_number text i n l few h =
    let number : min n 65537 ≡ min (decimal_from 0 text) 65537 = rw (drop_all i text l) at h in
    let same : n ≡ min n 65537 = omega arith in
    same ∙ number

-- ---- one text of digits for each number

digit_range : (c : ℕ) → is_ascii_digit c ≡ true → (48 ≤ c) × (c ≤ 57)
digit_range c h = (grind (arith, nat_tests), grind (arith, nat_tests))

zeros_dropped : (text : List ℕ) → decimal_from 0 (without_zeros text) ≡ decimal_from 0 text
zeros_dropped [] = refl
zeros_dropped (c ∷ cs) = at (zeros_dropped cs) (c == 48) refl
  where
    at : decimal_from 0 (without_zeros cs) ≡ decimal_from 0 cs → (t : Bool) → (c == 48) ≡ t → decimal_from 0 (cond t (without_zeros cs) (c ∷ cs)) ≡ decimal_from (10 * 0 + (c - 48)) cs
    at rest true e = let z : 10 * 0 + (c - 48) ≡ 0 = (let s : c ≡ 48 = grind (arith, nat_tests) in omega arith) in rest ∙ ap (λ n. decimal_from n cs) (sym z)
    at rest false e = refl

digits_kept : (text : List ℕ) → list_all is_ascii_digit text ≡ true → list_all is_ascii_digit (without_zeros text) ≡ true
digits_kept [] h = refl
digits_kept (c ∷ cs) h = at (digits_kept cs (both_right (is_ascii_digit c) (list_all is_ascii_digit cs) h)) (c == 48)
  where
    at : list_all is_ascii_digit (without_zeros cs) ≡ true → (t : Bool) → list_all is_ascii_digit (cond t (without_zeros cs) (c ∷ cs)) ≡ true
    at rest true = rest
    at rest false = h

-- a text whose first digit, if it has one, isn't 0
abbrev IsBare : List ℕ → Type 0
IsBare text = (rest : List ℕ) → text ≡ 48 ∷ rest → ⊥

bare : (text : List ℕ) → IsBare (without_zeros text)
bare [] = λ rest h. cc
bare (c ∷ cs) = at (bare cs) (c == 48) refl
  where
    at : IsBare (without_zeros cs) → (t : Bool) → (c == 48) ≡ t → IsBare (cond t (without_zeros cs) (c ∷ cs))
    at rest true e = rest
    at rest false e = λ more h. (let s : c ≡ 48 = cc in grind (arith, nat_tests))

-- ---- texts of the same length

record Same (n m : ℕ) (a b : List ℕ) : Type 0 where
  number : n ≡ m
  digits : a ≡ b

same_length : (a b : List ℕ) (n m : ℕ) → list_all is_ascii_digit a ≡ true → list_all is_ascii_digit b ≡ true → length a ≡ length b → decimal_from n a ≡ decimal_from m b → Same n m a b
same_length [] [] n m da db l h = record { number = h; digits = refl }
same_length [] (d ∷ ds) n m da db l h = absurd (omega arith)
same_length (c ∷ cs) [] n m da db l h = absurd (omega arith)
same_length (c ∷ cs) (d ∷ ds) n m da db l h =
    let rest = same_length cs ds (10 * n + (c - 48)) (10 * m + (d - 48)) (both_right (is_ascii_digit c) (list_all is_ascii_digit cs) da) (both_right (is_ascii_digit d) (list_all is_ascii_digit ds) db) (omega arith) h in
    let rc = digit_range c (both_left (is_ascii_digit c) (list_all is_ascii_digit cs) da) in
    let rd = digit_range d (both_left (is_ascii_digit d) (list_all is_ascii_digit ds) db) in
    first_digit c d n m rest.number rc rd cs ds rest.digits
  where
    first_digit : (c d n m : ℕ) → 10 * n + (c - 48) ≡ 10 * m + (d - 48) → (48 ≤ c) × (c ≤ 57) → (48 ≤ d) × (d ≤ 57) → (cs ds : List ℕ) → cs ≡ ds → Same n m (c ∷ cs) (d ∷ ds)
    first_digit c d n m e rc rd cs ds r =
        let c_low = rc.0 in let c_high = rc.1 in let d_low = rd.0 in let d_high = rd.1 in
        let same : c ≡ d = omega arith in
        record { number = omega arith; digits = cc }

-- ---- texts of any length

abbrev zeros : ℕ → List ℕ → List ℕ
zeros zero text = text
zeros (suc k) text = 48 ∷ zeros k text

zeros_number : (k : ℕ) (text : List ℕ) → decimal_from 0 (zeros k text) ≡ decimal_from 0 text
zeros_number zero text = refl
zeros_number (suc k) text = zeros_number k text

zeros_digits : (k : ℕ) (text : List ℕ) → list_all is_ascii_digit text ≡ true → list_all is_ascii_digit (zeros k text) ≡ true
zeros_digits zero text h = h
zeros_digits (suc k) text h = zeros_digits k text h

zeros_length : (k : ℕ) (text : List ℕ) → length (zeros k text) ≡ k + length text
zeros_length zero text = omega arith
zeros_length (suc k) text = let rest = zeros_length k text in omega arith

-- the longer of two bare texts of the same number is the other
shorter_same : (a b : List ℕ) → list_all is_ascii_digit a ≡ true → list_all is_ascii_digit b ≡ true → IsBare b → length a ≤ length b → decimal_from 0 a ≡ decimal_from 0 b → a ≡ b
shorter_same a b da db bare_b l h = at (length b - length a) refl
  where
    at : (k : ℕ) → length b - length a ≡ k → a ≡ b
    at zero e = (same_length a b 0 0 da db (omega arith) h).digits
    at (suc k) e =
        let size = zeros_length (suc k) a in
        let s = same_length (zeros (suc k) a) b 0 0 (zeros_digits (suc k) a da) db (omega arith) (zeros_number (suc k) a ∙ h) in
        absurd (bare_b (zeros k a) (sym s.digits))

same_bare : (a b : List ℕ) → list_all is_ascii_digit a ≡ true → list_all is_ascii_digit b ≡ true → IsBare a → IsBare b → decimal_from 0 a ≡ decimal_from 0 b → a ≡ b
same_bare a b da db bare_a bare_b h = at (nat_le (length a) (length b)) refl
  where
    at : (t : Bool) → nat_le (length a) (length b) ≡ t → a ≡ b
    at true e = shorter_same a b da db bare_b (grind (arith, nat_tests)) h
    at false e = sym (shorter_same b a db da bare_a (grind (arith, nat_tests)) (sym h))

digits_of : (text : List ℕ) → is_number text ≡ true → list_all is_ascii_digit text ≡ true
digits_of text h = both_right (not (length text == 0)) (list_all is_ascii_digit text) h

-- two numbers are the same exactly where their digits are, without the zeros in front
pub same_digits : (a b : List ℕ) → is_number a ≡ true → is_number b ≡ true → bytes_eq (without_zeros a) (without_zeros b) ≡ (number_of a == number_of b)
unfolding number_of
same_digits a b na nb = at (bytes_eq (without_zeros a) (without_zeros b)) refl (decimal_from 0 a == decimal_from 0 b) refl
  where
    at : (x : Bool) → bytes_eq (without_zeros a) (without_zeros b) ≡ x → (y : Bool) → (decimal_from 0 a == decimal_from 0 b) ≡ y → x ≡ y
    at true e true f = refl
    at false e false f = refl
    at true e false f =
        let s = (bytes_eq-Decides (without_zeros a) (without_zeros b)).0 e in
        let n : decimal_from 0 a ≡ decimal_from 0 b = sym (zeros_dropped a) ∙ ap (decimal_from 0) s ∙ zeros_dropped b in
        absurd (grind (arith, nat_tests))
    at false e true f =
        let n : decimal_from 0 a ≡ decimal_from 0 b = grind (arith, nat_tests) in
        let s = same_bare (without_zeros a) (without_zeros b) (digits_kept a (digits_of a na)) (digits_kept b (digits_of b nb)) (bare a) (bare b) (zeros_dropped a ∙ n ∙ sym (zeros_dropped b)) in
        let t = (bytes_eq-Decides (without_zeros a) (without_zeros b)).1 s in
        absurd (let w : false ≡ true = sym e ∙ t in cc)

-- ---- the first of several values

-- what each header of a name passes, the first of them does
first_passes : (p : List ℕ → Bool) (name : List ℕ) (headers : Headers) (value : List ℕ) → option_map (λ (h : List ℕ × List ℕ). h.1) (find (has_name name) headers) ≡ Some value
    → list_all (λ h. not (has_name name h) || p h.1) headers ≡ true → p value ≡ true
first_passes p name [] value f h = absurd cc
first_passes p name (header ∷ headers) value f h = at (has_name name header) f h (first_passes p name headers value)
  where
    at : (t : Bool) → option_map (λ (h : List ℕ × List ℕ). h.1) (cond t (Some header) (find (has_name name) headers)) ≡ Some value
        → ((not t || p header.1) && list_all (λ h. not (has_name name h) || p h.1) headers) ≡ true
        → (option_map (λ (h : List ℕ × List ℕ). h.1) (find (has_name name) headers) ≡ Some value → list_all (λ h. not (has_name name h) || p h.1) headers ≡ true → p value ≡ true)
        → p value ≡ true
    at true f h more = let e : header.1 ≡ value = cc in subst (λ (v : List ℕ). p v ≡ true) e (both_left (p header.1) (list_all (λ h. not (has_name name h) || p h.1) headers) h)
    at false f h more = more f h

pub first_is_number : (name : List ℕ) (headers : Headers) (value : List ℕ) → value_of name headers ≡ Some value → all_values (is_same_number value) name headers ≡ true → is_number value ≡ true
unfolding value_of all_values is_same_number
first_is_number name headers value f h =
    both_left (is_number value) (is_number value) (both_left (is_number value && is_number value) (number_of value == number_of value) (first_passes (is_same_number value) name headers value f h))
