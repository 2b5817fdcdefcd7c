-- Decimal text: written from its last digit, and read back.
use Rattle.std.proofs.Common.{◌≡◌, ℕ, suc, zero, ◌+◌, ◌-◌, ◌/◌, ◌%◌, ◌^◌, ◌<◌, ◌≤◌, true, nat_lt, nat_le, false, List, [], ◌∷◌, ◌++◌, length, drop, set, Some, refl, sym, ap, ◌∙◌, arith}
use Rattle.std.specs.List.{list_all, All}
use Rattle.std.specs.Char.{is_ascii_digit}
use Rattle.std.specs.Fmt.{decimal}
use Rattle.std.proofs.lemmas.Fmt.{decimal_digit, decimal_step, decimal_by_steps}
use Rattle.std.proofs.lemmas.List.{append_assoc, drop-set, length_push}
use Rattle.std.proofs.lemmas.List.Folds.{list_all-append}
use Rattle.std.proofs.lemmas.Bool.Decides.{nat_tests}
use Rattle.ph_base.specs.Numbers.{decimal_from, number_from, number_in}
use Rattle.ph_base.proofs.DecimalLemmas.{decimal_snoc, is_ascii_digit-bounds}
use Rattle.ph_sign.specs.Verdicts.{is_comma}
use Rattle.std.proofs.lemmas.Bool.{and_parts}
use Rattle.std.proofs.lemmas.List.Elements.{All-cons, All-nil}

-- a number of two digits or more is one digit longer than its tenth
pub length-decimal_step : (n : ℕ) → 10 ≤ n → n < 2 ^ 64 → length (decimal n) ≡ length (decimal (n / 10)) + 1
length-decimal_step n two small = ap length (decimal_step n two small) ∙ length_push (decimal (n / 10)) (48 + n % 10)

-- one digit more at the front of those written
pub digit_written : (bytes : List ℕ) (start number rest : ℕ) → 10 ≤ rest → rest < 2 ^ 64 → 0 < start → start ≤ length bytes
    → decimal rest ++ drop start bytes ≡ decimal number
    → decimal (rest / 10) ++ drop (start - 1) (set bytes (start - 1) (48 + rest % 10)) ≡ decimal number
digit_written bytes zero number rest two small some fits text = absurd (omega arith)
digit_written bytes (suc j) number rest two small some fits text =
    let at : suc j - 1 ≡ j = omega arith in
    let next : j + 1 ≡ suc j = omega arith in
    let step = decimal_step rest two small in
    rw (at, drop-set bytes j (48 + rest % 10) (omega arith), next)
    (sym (append_assoc (decimal (rest / 10)) ((48 + rest % 10) ∷ []) (drop (suc j) bytes)) ∙ rw step at text)

-- the last digit at the front of those written
pub digits_end : (bytes : List ℕ) (start number rest : ℕ) → rest < 10 → 0 < start → start ≤ length bytes
    → decimal rest ++ drop start bytes ≡ decimal number
    → drop (start - 1) (set bytes (start - 1) (48 + rest)) ≡ decimal number
digits_end bytes zero number rest one some fits text = absurd (omega arith)
digits_end bytes (suc j) number rest one some fits text =
    let at : suc j - 1 ≡ j = omega arith in
    let next : j + 1 ≡ suc j = omega arith in
    let digit = decimal_digit rest one in
    rw (at, drop-set bytes j (48 + rest) (omega arith), next) (rw digit at text)

-- digits that read as a number
record Reads (number : ℕ) (text : List ℕ) : Type 0 where
  digits : list_all is_ascii_digit text ≡ true
  value : decimal_from 0 text ≡ number
  some : 0 < length text

reads_digit : (n : ℕ) → n < 10 → is_ascii_digit (48 + n) ≡ true
reads_digit n small =
    let low : nat_le 48 (48 + n) ≡ true = grind (arith, nat_tests) in
    let high : nat_le (48 + n) 57 ≡ true = grind (arith, nat_tests) in
    rw (low, high) refl

reads_more : (n : ℕ) (text : List ℕ) → Reads (n / 10) text → Reads n (text ++ (48 + n % 10) ∷ [])
reads_more n text reads = record {
  digits = rw (list_all-append is_ascii_digit text ((48 + n % 10) ∷ []), reads.digits, reads_digit (n % 10) (omega arith)) refl;
  value = rw (decimal_snoc 0 text (48 + n % 10), reads.value) (omega arith);
  some = let longer = length_push text (48 + n % 10) in omega arith;
}

reads_decimal : (n : ℕ) → n < 2 ^ 64 → Reads n (decimal n)
reads_decimal n small =
    decimal_by_steps Reads
    (λ d one. record { digits = rw (reads_digit d one) refl; value = omega arith; some = omega arith })
    (λ m text more reads. reads_more m text reads)
    n small

number_in_digits : (number : ℕ) (text : List ℕ) → Reads number text → number < 2 ^ 64 → number_in text ≡ Some number
unfolding number_from
number_in_digits number [] reads small = absurd (omega (arith, reads.some))
number_in_digits number (c ∷ cs) reads small =
    let below : nat_lt number (2 ^ 64) ≡ true = grind (arith, nat_tests) in
    rw (reads.digits, reads.value, below) refl

-- the decimal text of a number is read back
pub number_in-decimal : (n : ℕ) → n < 2 ^ 64 → number_in (decimal n) ≡ Some n
number_in-decimal n small = number_in_digits n (decimal n) (reads_decimal n small) small

digits_no_comma : (text : List ℕ) → list_all is_ascii_digit text ≡ true → All (λ b. is_comma b ≡ false) text
digits_no_comma [] h = All-nil (λ b. is_comma b ≡ false)
digits_no_comma (c ∷ cs) h =
    let parts = and_parts (is_ascii_digit c) (list_all is_ascii_digit cs) h in
    let bounds = is_ascii_digit-bounds c parts.0 in
    let other : is_comma c ≡ false = grind (arith, nat_tests) in
    All-cons (λ b. is_comma b ≡ false) c cs other (digits_no_comma cs parts.1)

-- a decimal text has no comma
pub decimal_no_comma : (n : ℕ) → n < 2 ^ 64 → All (λ b. is_comma b ≡ false) (decimal n)
decimal_no_comma n small = digits_no_comma (decimal n) (reads_decimal n small).digits
