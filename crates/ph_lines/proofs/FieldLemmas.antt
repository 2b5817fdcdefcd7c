-- A field that is read is the field that was written, and what was written is read again.
use Rattle.std.proofs.Common.{◌≡◌, ℕ, suc, ◌+◌, ◌/◌, ◌%◌, ◌^◌, ◌<◌, ◌≤◌, ◌⊎◌, inl, inr, Bool, true, false, ◌&&◌, ◌||◌, cond, nat_lt, nat_le, List, [], ◌∷◌, ◌++◌, length, slice_index, Option, Some, None, Result, Ok, Err, refl, sym, ap, subst, ◌∙◌, arith, codes}
use Rattle.std.specs.Prelude.{IfSome, ◌==◌}
use Rattle.std.specs.List.{list_any, list_all}
use Rattle.std.specs.Str.{bytes_eq}
use Rattle.std.specs.Char.{is_ascii_digit}
use Rattle.std.specs.Fmt.{decimal}
use Rattle.std.proofs.lemmas.Bool.{ltb-true, le-ltb, eqb-true, lt-ltb}
use Rattle.std.proofs.lemmas.Bool.Decides.{nat_tests}
use Rattle.std.proofs.lemmas.Slice.Eq.{bytes_eq-Decides}
use Rattle.hex.specs.Hex.{encode_lower, encode_with, decode_of, hex_digit_value, lower_digits, IsBytes}
use Rattle.hex.specs.declared.error.FromHexError.{FromHexError}
use Rattle.hex.proofs.HexLemmas.{decode_of-encode_lower, decode_of-ok, IsDigits-lower_digits}
use Rattle.ph_base.specs.Numbers.{number_in, number_from, decimal_from}
use Rattle.ph_lines.specs.Fields.{octets, flag}
use Rattle.ph_lines.specs.Reading.{◌>>=◌, is_space, number_of, hex_of, lower_only, behind_equals, octets_of, flag_of, field_at, by_word, number_at, octets_at, flag_at, bytes_at, present, all_read}
use Rattle.ph_lines.proofs.SplitLemmas.{is_shown}
use Rattle.ph_sign.proofs.DecimalLemmas.{number_in-decimal}
use Rattle.std.proofs.lemmas.Fmt.{decimal_by_steps}
use Rattle.std.proofs.lemmas.List.{nil_from_length}
use Rattle.std.proofs.lemmas.List.Folds.{list_all-append}

pub bind_some : {A B : Type 0} (o : Option A) (f : A → Option B) (y : B) → (o >>= f) ≡ Some y → (x : A) × (o ≡ Some x) × (f x ≡ Some y)
bind_some (Some x) f y e = (x, refl, e)
bind_some None f y e = absurd cc

-- the same, where the value is to be a variable: what follows stays small
pub bind_then : {A B : Type 0} {P : Type 0} (o : Option A) (f : A → Option B) (y : B) → (o >>= f) ≡ Some y → ((x : A) → o ≡ Some x → f x ≡ Some y → P) → P
bind_then (Some x) f y e more = more x refl e
bind_then None f y e more = absurd cc

abbrev pub just : {A : Type 0} → A → Option A
just x = Some x

pub some_is : {A : Type 0} (x y : A) → just x ≡ just y → x ≡ y
some_is x y e = cc

-- a test of which only the one side is something
pub guarded : {A : Type 0} (b : Bool) (o : Option A) (y : A) → cond b o None ≡ Some y → (b ≡ true) × (o ≡ Some y)
guarded true o y e = (refl, e)
guarded false o y e = absurd cc

pub same_bytes : (xs ys : List ℕ) → bytes_eq xs ys ≡ true → xs ≡ ys
same_bytes xs ys h = (bytes_eq-Decides xs ys).0 h

pub equal_bytes : (xs : List ℕ) → bytes_eq xs xs ≡ true
equal_bytes xs = (bytes_eq-Decides xs xs).1 refl

-- a chain of words: the field is the word of what it gives
pub spelled : {X : Type 0} (word : X → List ℕ) (text : List ℕ) (x y : X) (rest : Option X) → cond (bytes_eq text (word x)) (Some x) rest ≡ Some y → (rest ≡ Some y → text ≡ word y) → text ≡ word y
spelled word text x y rest e others = at (bytes_eq text (word x)) refl e
  where
    at : (t : Bool) → bytes_eq text (word x) ≡ t → cond t (Some x) rest ≡ Some y → text ≡ word y
    at true h e = same_bytes text (word x) h ∙ ap word (some_is x y e)
    at false h e = others e

-- ---- numbers

number_in_small : (text : List ℕ) (n : ℕ) → number_in text ≡ Some n → n < 2 ^ 64
unfolding number_from
number_in_small [] n e = absurd cc
number_in_small (c ∷ cs) n e = at (list_all is_ascii_digit (c ∷ cs)) (nat_lt (decimal_from 0 (c ∷ cs)) (2 ^ 64)) refl e
  where
    at : (a b : Bool) → nat_lt (decimal_from 0 (c ∷ cs)) (2 ^ 64) ≡ b → cond (a && b) (Some (decimal_from 0 (c ∷ cs))) None ≡ Some n → n < 2 ^ 64
    at true true h e = rw (← some_is (decimal_from 0 (c ∷ cs)) n e) (ltb-true _ _ h)
    at true false h e = absurd cc
    at false b h e = absurd cc

pub number_takes : (word : List ℕ) (n : ℕ) → number_of word ≡ Some n → (word ≡ decimal n) × (n < 2 ^ 64)
unfolding number_of
number_takes word n e =
    let a = bind_some (number_in word) (λ m. cond (bytes_eq (decimal m) word) (Some m) None) n e in
    let g = guarded (bytes_eq (decimal a.0) word) (Some a.0) n a.2 in
    let same = some_is a.0 n g.1 in
    (sym (same_bytes (decimal a.0) word g.0) ∙ ap decimal same, rw (← same) (number_in_small word a.0 a.1))

pub number_again : (n : ℕ) → n < 2 ^ 64 → number_of (decimal n) ≡ Some n
unfolding number_of
number_again n small = rw (number_in-decimal n small, equal_bytes (decimal n)) refl

-- ---- bytes

lower_is : (text bytes : List ℕ) (r : Result (List ℕ) FromHexError) → lower_only text r ≡ Some bytes → (r ≡ Ok bytes) × (text ≡ encode_lower bytes)
lower_is text bytes (Ok bytes2) e =
    let g = guarded (bytes_eq (encode_lower bytes2) text) (Some bytes2) bytes e in
    let same = some_is bytes2 bytes g.1 in
    (ap Ok same, sym (same_bytes (encode_lower bytes2) text g.0) ∙ ap encode_lower same)
lower_is text bytes (Err x) e = absurd cc

pub hex_takes : (text bytes : List ℕ) → hex_of text ≡ Some bytes → (text ≡ encode_lower bytes) × IsBytes bytes
unfolding hex_of
hex_takes text bytes e = let a = lower_is text bytes (decode_of text) e in (a.1, (decode_of-ok text bytes a.0).3)

pub hex_again : (bytes : List ℕ) → IsBytes bytes → hex_of (encode_lower bytes) ≡ Some bytes
unfolding hex_of
hex_again bytes fits = rw (decode_of-encode_lower bytes fits, equal_bytes (encode_lower bytes)) refl

behind_takes : (word : List ℕ) (found : Option (List ℕ)) → behind_equals word ≡ Some found → (word ≡ octets found) × IfSome found IsBytes
behind_takes [] found e = absurd cc
behind_takes (c ∷ text) found e =
    let g = guarded (c == 61) (hex_of text >>= λ bytes. Some (Some bytes)) found e in
    let a = bind_some (hex_of text) (λ bytes. Some (Some bytes)) found g.1 in
    let t = hex_takes text a.0 a.1 in
    subst (λ o. (c ∷ text ≡ octets o) × IfSome o IsBytes) (some_is (Some a.0) found a.2) (ap (λ d. d ∷ text) (eqb-true c 61 g.0) ∙ ap (λ bytes. 61 ∷ bytes) t.0, t.1)

pub octets_takes : (word : List ℕ) (found : Option (List ℕ)) → octets_of word ≡ Some found → (word ≡ octets found) × IfSome found IsBytes
unfolding octets_of
octets_takes word found e = at (bytes_eq word (codes "-")) refl e
  where
    at : (t : Bool) → bytes_eq word (codes "-") ≡ t → cond t (Some None) (behind_equals word) ≡ Some found → (word ≡ octets found) × IfSome found IsBytes
    at true h e = subst (λ o. (word ≡ octets o) × IfSome o IsBytes) (some_is None found e) (same_bytes word (codes "-") h, tt)
    at false h e = behind_takes word found e

pub octets_again : (o : Option (List ℕ)) → IfSome o IsBytes → octets_of (octets o) ≡ Some o
unfolding octets_of
octets_again None fits = refl
octets_again (Some bytes) fits = rw (hex_again bytes fits) refl

-- ---- yes or no

flag_takes : (word : List ℕ) (b : Bool) → flag_of word ≡ Some b → word ≡ flag b
flag_takes word b e = spelled flag word false b _ e (λ e. spelled flag word true b None e (λ e. absurd cc))

flag_again : (b : Bool) → flag_of (flag b) ≡ Some b
flag_again true = refl
flag_again false = refl

-- ---- a field and those after it

pub field_takes : (words : List (List ℕ)) (x : List ℕ × List (List ℕ)) → field_at words ≡ Some x → words ≡ x.0 ∷ x.1
field_takes [] x e = absurd cc
field_takes (word ∷ words) x e = ap (λ (p : List ℕ × List (List ℕ)). p.0 ∷ p.1) (some_is (word, words) x e)

pub by_word_takes : {X : Type 0} (read : List ℕ → Option X) (words : List (List ℕ)) (x : X × List (List ℕ)) → by_word read words ≡ Some x → (word : List ℕ) × (words ≡ word ∷ x.1) × (read word ≡ Some x.0)
unfolding by_word
by_word_takes {X} read words x e =
    let a = bind_some (field_at words) (λ word. read word.0 >>= λ v. Some (v, word.1)) x e in
    let b = bind_some (read a.0.0) (λ v. Some (v, a.0.1)) x a.2 in
    let same = some_is (b.0, a.0.1) x b.2 in
    (a.0.0, field_takes words a.0 a.1 ∙ ap (λ (p : X × List (List ℕ)). a.0.0 ∷ p.1) same, b.1 ∙ ap (λ (p : X × List (List ℕ)). Some p.0) same)

pub by_word_again : {X : Type 0} (read : List ℕ → Option X) (word : List ℕ) (x : X) (rest : List (List ℕ)) → read word ≡ Some x → by_word read (word ∷ rest) ≡ Some (x, rest)
unfolding by_word
by_word_again read word x rest e = rw e refl

pub number_field : (words : List (List ℕ)) (x : ℕ × List (List ℕ)) → number_at words ≡ Some x → (words ≡ decimal x.0 ∷ x.1) × (x.0 < 2 ^ 64)
number_field words x e =
    let a = by_word_takes number_of words x e in
    let t = number_takes a.0 x.0 a.2 in
    (a.1 ∙ ap (λ word. word ∷ x.1) t.0, t.1)

pub number_field_again : (n : ℕ) (rest : List (List ℕ)) → n < 2 ^ 64 → number_at (decimal n ∷ rest) ≡ Some (n, rest)
number_field_again n rest small = by_word_again number_of (decimal n) n rest (number_again n small)

pub octets_field : (words : List (List ℕ)) (x : Option (List ℕ) × List (List ℕ)) → octets_at words ≡ Some x → (words ≡ octets x.0 ∷ x.1) × IfSome x.0 IsBytes
octets_field words x e =
    let a = by_word_takes octets_of words x e in
    let t = octets_takes a.0 x.0 a.2 in
    (a.1 ∙ ap (λ word. word ∷ x.1) t.0, t.1)

pub octets_field_again : (o : Option (List ℕ)) (rest : List (List ℕ)) → IfSome o IsBytes → octets_at (octets o ∷ rest) ≡ Some (o, rest)
octets_field_again o rest fits = by_word_again octets_of (octets o) o rest (octets_again o fits)

pub bytes_field : (words : List (List ℕ)) (x : List ℕ × List (List ℕ)) → bytes_at words ≡ Some x → (words ≡ octets (Some x.0) ∷ x.1) × IsBytes x.0
bytes_field words x e =
    let a = bind_some (octets_at words) _ x e in
    at a.0.0 refl (octets_field words a.0 a.1) a.2
  where
    at : (o : Option (List ℕ)) {p : Option (List ℕ) × List (List ℕ)} → p.0 ≡ o → (words ≡ octets p.0 ∷ p.1) × IfSome p.0 IsBytes → (present p.0 >>= λ bytes. Some (bytes, p.1)) ≡ Some x → (words ≡ octets (Some x.0) ∷ x.1) × IsBytes x.0
    at None {p} h t e = absurd (let e' = rw h at e in let never : None ≡ just x = e' in cc)
    at (Some bytes) {p} h t e =
        let e' : just (bytes, p.1) ≡ just x = rw h at e in
        let t' : (words ≡ octets (Some bytes) ∷ p.1) × IsBytes bytes = rw h at t in
        subst (λ (y : List ℕ × List (List ℕ)). (words ≡ octets (Some y.0) ∷ y.1) × IsBytes y.0) (some_is (bytes, p.1) x e') t'

pub bytes_field_again : (bytes : List ℕ) (rest : List (List ℕ)) → IsBytes bytes → bytes_at (octets (Some bytes) ∷ rest) ≡ Some (bytes, rest)
bytes_field_again bytes rest fits = rw (octets_field_again (Some bytes) rest fits) refl

pub flag_field : (words : List (List ℕ)) (x : Bool × List (List ℕ)) → flag_at words ≡ Some x → words ≡ flag x.0 ∷ x.1
flag_field words x e =
    let a = by_word_takes flag_of words x e in
    a.1 ∙ ap (λ word. word ∷ x.1) (flag_takes a.0 x.0 a.2)

pub flag_field_again : (b : Bool) (rest : List (List ℕ)) → flag_at (flag b ∷ rest) ≡ Some (b, rest)
flag_field_again b rest = by_word_again flag_of (flag b) b rest (flag_again b)

-- ---- fields have no space

digit_is_shown : (n : ℕ) → is_shown (48 + n) ≡ true
digit_is_shown n = grind (arith, nat_tests)

pub decimal_plain : (n : ℕ) → n < 2 ^ 64 → list_all is_shown (decimal n) ≡ true
decimal_plain n small =
    decimal_by_steps (λ m text. list_all is_shown text ≡ true)
    (λ d one. rw (digit_is_shown d) refl)
    (λ m text more plain. rw (list_all-append is_shown text ((48 + m % 10) ∷ []), plain, digit_is_shown (m % 10)) refl)
    n small

digit_shown : (c d : ℕ) → hex_digit_value c ≡ Some d → is_shown c ≡ true
digit_shown c d h = grind (arith, nat_tests)

digit_plain : (d : ℕ) → d < 16 → is_shown (slice_index lower_digits d) ≡ true
digit_plain d small = digit_shown (slice_index lower_digits d) d (IsDigits-lower_digits d small)

pub hex_plain : (bytes : List ℕ) → IsBytes bytes → list_all is_shown (encode_lower bytes) ≡ true
unfolding encode_with
hex_plain [] fits = refl
hex_plain (b ∷ bytes) fits =
    let small : b < 256 = fits 0 in
    rw (digit_plain (b / 16) (omega arith), digit_plain (b % 16) (omega arith), hex_plain bytes (λ i. fits (suc i))) refl

pub octets_plain : (o : Option (List ℕ)) → IfSome o IsBytes → list_all is_shown (octets o) ≡ true
octets_plain None fits = refl
octets_plain (Some bytes) fits = hex_plain bytes fits

pub flag_plain : (b : Bool) → list_all is_shown (flag b) ≡ true
flag_plain true = refl
flag_plain false = refl

-- one field more in front
pub behind : {word : List ℕ} {xs ys : List (List ℕ)} → xs ≡ ys → word ∷ xs ≡ word ∷ ys
behind {word} e = ap (λ words. word ∷ words) e

-- nothing is left, and this was read
pub nothing_left : {X : Type 0} (x y : X) (rest : List (List ℕ)) → all_read (x, rest) ≡ Some y → (rest ≡ []) × (x ≡ y)
nothing_left x y rest e =
    let g = guarded (length rest == 0) (Some x) y e in
    (nil_from_length rest (eqb-true (length rest) 0 g.0), some_is x y g.1)

-- a chain of words: the first field is this one, or another
pub kind_is : {P : Type 0} {X : Type 0} (word text : List ℕ) (o rest : Option X) (x : X) → cond (bytes_eq word text) o rest ≡ Some x → (word ≡ text → o ≡ Some x → P) → (rest ≡ Some x → P) → P
kind_is {P} word text o rest x e this others = at (bytes_eq word text) refl e
  where
    at : (t : Bool) → bytes_eq word text ≡ t → cond t o rest ≡ Some x → P
    at true h e = this (same_bytes word text h) e
    at false h e = others e
