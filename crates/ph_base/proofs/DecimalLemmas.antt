-- Decimal text: reading digit by digit, and sixteen digits.
use Rattle.std.proofs.Common.{◌≡◌, ℕ, suc, zero, ◌+◌, ◌-◌, ◌*◌, ◌/◌, ◌%◌, ◌^◌, ◌<◌, ◌≤◌, Bool, true, false, ◌&&◌, cond, nat_lt, nat_le, List, [], ◌∷◌, ◌++◌, length, take, drop, get_or, set, Some, None, refl, sym, ap, ◌∙◌, subst, arith}
use Rattle.std.specs.List.{list_all}
use Rattle.std.proofs.Math.Nat.{pow-succ'}
use Rattle.std.proofs.lemmas.List.{append_assoc, at_drop_more, at_drop_all, take_more, take_all, drop-set, length_push}
use Rattle.std.proofs.lemmas.List.Folds.{list_all-append}
use Rattle.std.proofs.lemmas.Bool.{false≢true}
use Rattle.std.proofs.lemmas.Bool.Decides.{nat_tests}
use Rattle.std.specs.Char.{is_ascii_digit}
use Rattle.ph_base.specs.Numbers.{decimal_from, decimal, padded, number_from, number_in}

-- ---- one digit after another

pub decimal_grows : (n : ℕ) (cs : List ℕ) → n ≤ decimal_from n cs
decimal_grows n [] = omega arith
decimal_grows n (c ∷ cs) = let more = decimal_grows (10 * n + (c - 48)) cs in omega arith

pub number_step : (n c : ℕ) (cs : List ℕ) → is_ascii_digit c ≡ true → number_from n (c ∷ cs) ≡ number_from (10 * n + (c - 48)) cs
unfolding number_from
number_step n c cs h = rw h refl

pub number_stops : (n c : ℕ) (cs : List ℕ) → is_ascii_digit c ≡ false → number_from n (c ∷ cs) ≡ None
unfolding number_from
number_stops n c cs h = rw h refl

pub number_over : (n : ℕ) (cs : List ℕ) → 2 ^ 64 ≤ n → number_from n cs ≡ None
unfolding number_from
number_over n cs h = let more = decimal_grows n cs in let big : nat_lt (decimal_from n cs) (2 ^ 64) ≡ false = grind (arith, nat_tests) in rw big (chosen (list_all is_ascii_digit cs))
  where
    chosen : (b : Bool) → cond (b && false) (Some (decimal_from n cs)) None ≡ None
    chosen true = refl
    chosen false = refl

pub number_ends : (n : ℕ) → n < 2 ^ 64 → number_from n [] ≡ Some n
unfolding number_from
number_ends n h = let small : nat_lt n (2 ^ 64) ≡ true = grind (arith, nat_tests) in rw small refl

some_text : (text : List ℕ) → 0 < length text → number_in text ≡ number_from 0 text
some_text [] h = absurd (omega arith)
some_text (c ∷ cs) h = refl

-- the loop of `read_number` at a byte that isn't a digit, at a number too large, at one more digit, and at the end
pub read_stops : (text : List ℕ) (i n : ℕ) → i < length text → number_from n (drop i text) ≡ number_from 0 text → is_ascii_digit (get_or text i 0) ≡ false → None ≡ number_in text
read_stops text i n l h d = sym (some_text text (omega arith) ∙ sym h ∙ at_drop_more (number_from n) text i 0 l ∙ number_stops n (get_or text i 0) (drop (i + 1) text) d)

pub read_more : (text : List ℕ) (i n m : ℕ) → i < length text → number_from n (drop i text) ≡ number_from 0 text → is_ascii_digit (get_or text i 0) ≡ true → m ≡ 10 * n + (get_or text i 0 - 48) → number_from m (drop (i + 1) text) ≡ number_from 0 text
read_more text i n m l h d e = rw e (sym (number_step n (get_or text i 0) (drop (i + 1) text) d) ∙ sym (at_drop_more (number_from n) text i 0 l) ∙ h)

pub read_over : (text : List ℕ) (i n : ℕ) → i < length text → number_from n (drop i text) ≡ number_from 0 text → is_ascii_digit (get_or text i 0) ≡ true → 2 ^ 64 ≤ 10 * n + (get_or text i 0 - 48) → None ≡ number_in text
read_over text i n l h d big = sym (some_text text (omega arith) ∙ sym (read_more text i n _ l h d refl) ∙ number_over _ (drop (i + 1) text) big)

pub read_all : (text : List ℕ) (i n : ℕ) → 0 < length text → length text ≤ i → number_from n (drop i text) ≡ number_from 0 text → n < 2 ^ 64 → Some n ≡ number_in text
read_all text i n some l h small = sym (some_text text some ∙ sym h ∙ at_drop_all (number_from n) text i l ∙ number_ends n small)

-- ---- sixteen digits

-- one digit more at the front of those written
pub padded_step : (bytes : List ℕ) (i n rest : ℕ) → 0 < i → i ≤ length bytes → i ≤ i → padded i rest ++ drop i bytes ≡ padded 16 n → padded (i - 1) (rest / 10) ++ drop (i - 1) (set bytes (i - 1) (rest % 10 + 48)) ≡ padded 16 n
unfolding padded
padded_step bytes zero n rest pos le _ h = absurd (omega arith)
padded_step bytes (suc j) n rest pos le _ h =
    let e : suc j - 1 ≡ j = omega arith in
    let d : rest % 10 + 48 ≡ 48 + rest % 10 = omega arith in
    let s : j + 1 ≡ suc j = omega arith in
    rw (e, d, drop-set bytes j (48 + rest % 10) (omega arith), s) (sym (append_assoc (padded j (rest / 10)) ((48 + rest % 10) ∷ []) (drop (suc j) bytes)) ∙ h)

pub length-padded : (k n : ℕ) → length (padded k n) ≡ k
unfolding padded
length-padded zero n = refl
length-padded (suc k) n = length_push (padded k (n / 10)) (48 + n % 10) ∙ (let e = length-padded k (n / 10) in omega arith)

digits_and : (xs : List ℕ) (c : ℕ) → list_all is_ascii_digit xs ≡ true → is_ascii_digit c ≡ true → list_all is_ascii_digit (xs ++ c ∷ []) ≡ true
digits_and xs c h d = rw (list_all-append is_ascii_digit xs (c ∷ []), h, d) refl

digit_at : (n : ℕ) → is_ascii_digit (48 + n % 10) ≡ true
digit_at n = let low : nat_le 48 (48 + n % 10) ≡ true = grind (arith, nat_tests) in let high : nat_le (48 + n % 10) 57 ≡ true = grind (arith, nat_tests) in rw (low, high) refl

pub digits_padded : (k n : ℕ) → list_all is_ascii_digit (padded k n) ≡ true
unfolding padded
digits_padded zero n = refl
digits_padded (suc k) n = digits_and (padded k (n / 10)) (48 + n % 10) (digits_padded k (n / 10)) (digit_at n)

pub decimal_snoc : (n : ℕ) (xs : List ℕ) (c : ℕ) → decimal_from n (xs ++ c ∷ []) ≡ 10 * decimal_from n xs + (c - 48)
decimal_snoc n [] c = refl
decimal_snoc n (x ∷ xs) c = decimal_snoc (10 * n + (x - 48)) xs c

pub decimal_padded : (k n : ℕ) → n < 10 ^ k → decimal (padded k n) ≡ n
unfolding padded
decimal_padded zero n h = omega arith
decimal_padded (suc k) n h =
    let below : n / 10 < 10 ^ k = (let p : 10 ^ suc k ≡ 10 * 10 ^ k = omega arith in omega arith) in
    decimal_snoc 0 (padded k (n / 10)) (48 + n % 10) ∙ (let e = decimal_padded k (n / 10) below in omega arith)

is_true_and : (a b : Bool) → (a && b) ≡ true → (a ≡ true) × (b ≡ true)
is_true_and true b h = (refl, h)
is_true_and false b h = absurd (false≢true h)

-- what the first i digits say
pub record Front (ds : List ℕ) (i : ℕ) : Type 0 where
  pub again : padded i (decimal (take i ds)) ≡ take i ds
  pub below : decimal (take i ds) < 10 ^ i

pub is_ascii_digit-bounds : (c : ℕ) → is_ascii_digit c ≡ true → (48 ≤ c) × (c ≤ 57)
is_ascii_digit-bounds c h = (grind (arith, nat_tests), grind (arith, nat_tests))

pub front_is : (ds : List ℕ) → list_all is_ascii_digit ds ≡ true → (i : ℕ) → i ≤ length ds → Front ds i
unfolding padded
front_is ds h zero le = record { again = refl; below = omega arith }
front_is ds h (suc i) le =
    let c = get_or ds i 0 in
    let d : (48 ≤ c) × (c ≤ 57) = is_ascii_digit-bounds c (at_digit ds i h (omega arith)) in
    let f = front_is ds h i (omega arith) in
    let more : take (suc i) ds ≡ take i ds ++ c ∷ [] = (let m = take_more ds i 0 (omega arith) in let e : i + 1 ≡ suc i = omega arith in subst (λ (k : ℕ). take k ds ≡ take i ds ++ c ∷ []) e m) in
    let value : decimal (take (suc i) ds) ≡ 10 * decimal (take i ds) + (c - 48) = ap decimal more ∙ decimal_snoc 0 (take i ds) c in
    record {
      again = rw value (
          let q : (10 * decimal (take i ds) + (c - 48)) / 10 ≡ decimal (take i ds) = omega arith in
          let r : 48 + (10 * decimal (take i ds) + (c - 48)) % 10 ≡ c = omega arith in
          rw (q, r, f.again) (sym more));
      below = rw value (let b = f.below in let p = pow-succ' 10 i in omega arith);
    }
  where
    at_digit : (ds : List ℕ) (i : ℕ) → list_all is_ascii_digit ds ≡ true → i < length ds → is_ascii_digit (get_or ds i 0) ≡ true
    at_digit (x ∷ xs) zero h l = (is_true_and (is_ascii_digit x) (list_all is_ascii_digit xs) h).0
    at_digit (x ∷ xs) (suc i) h l = at_digit xs i (is_true_and (is_ascii_digit x) (list_all is_ascii_digit xs) h).1 (omega arith)
    at_digit [] i h l = absurd (omega arith)

-- sixteen digits are the number that they give, in sixteen digits
pub padded_decimal : (ds : List ℕ) → list_all is_ascii_digit ds ≡ true → padded (length ds) (decimal ds) ≡ ds
padded_decimal ds h = let f = front_is ds h (length ds) (omega arith) in let all = take_all (length ds) ds (omega arith) in rw all at f.again

pub decimal_below : (ds : List ℕ) → list_all is_ascii_digit ds ≡ true → decimal ds < 10 ^ length ds
decimal_below ds h = let f = front_is ds h (length ds) (omega arith) in let all = take_all (length ds) ds (omega arith) in rw all at f.below

-- sixteen digits are read as the number that they print
pub number_padded : (n : ℕ) → n < 10 ^ 16 → number_in (padded 16 n) ≡ Some n
unfolding number_from
number_padded n h =
    let d = digits_padded 16 n in
    let v = decimal_padded 16 n h in
    let small : nat_lt n (2 ^ 64) ≡ true = grind (arith, nat_tests) in
    some_text (padded 16 n) (let l = length-padded 16 n in omega arith) ∙ rw (d, v, small) refl

-- what is read from sixteen bytes is what they print
pub record Prints (text : List ℕ) (n : ℕ) : Type 0 where
  pub below : n < 10 ^ 16
  pub text_is : text ≡ padded 16 n

pub number_prints : (text : List ℕ) (n : ℕ) → length text ≡ 16 → Some n ≡ number_in text → Prints text n
unfolding number_from
number_prints text n l e = cases (list_all is_ascii_digit text) (nat_lt (decimal text) (2 ^ 64)) refl (e ∙ some_text text (omega arith))
  where
    cases : (a b : Bool) → list_all is_ascii_digit text ≡ a → Some n ≡ cond (a && b) (Some (decimal text)) None → Prints text n
    cases true true h e =
        let same : n ≡ decimal text = cc in
        record {
          below = subst (λ k. n < 10 ^ k) l (subst (λ v. v < 10 ^ length text) (sym same) (decimal_below text h));
          text_is = sym (padded_decimal text h) ∙ ap (λ k. padded k (decimal text)) l ∙ ap (padded 16) (sym same);
        }
    cases true false h e = absurd cc
    cases false b h e = absurd cc
