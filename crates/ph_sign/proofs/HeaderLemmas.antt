-- A header's items, and its verdict under each of its secrets.
use Rattle.std.proofs.Common.{◌≡◌, ℕ, zero, suc, ◌+◌, ◌/◌, ◌%◌, ◌^◌, ◌<◌, ◌≤◌, Bool, true, false, ◌||◌, not, nat_eq, nat_lt, List, [], ◌∷◌, ◌++◌, length, map, get_or, slice_index, Some, None, refl, sym, ap, ◌∙◌, arith, codes}
use Rattle.std.specs.Prelude.{Contains, position}
use Rattle.std.specs.List.{All, filter_map, flat_map, list_all, list_any, slice_split}
use Rattle.std.specs.Fmt.{decimal}
use Rattle.std.specs.Option.{option_and_then}
use Rattle.std.specs.Str.{bytes_eq}
use Rattle.std.proofs.lemmas.Bool.{and_parts}
use Rattle.std.proofs.lemmas.Bool.Decides.{nat_tests}
use Rattle.std.proofs.lemmas.List.{append-nil}
use Rattle.std.proofs.lemmas.List.Elements.{All-cons, All-nil}
use Rattle.std.proofs.lemmas.List.Splits.{slice_split_at, slice_split_none}
use Rattle.hex.specs.Hex.{encode_lower, encode_with, lower_digits}
use Rattle.ph_base.specs.Numbers.{number_in}
use Rattle.ph_sign.specs.Signatures.{signature_header, signature_of}
use Rattle.ph_sign.specs.Verdicts.{first_of, is_comma, is_equals, is_old, judged, moment_of, value_in, values_of, verdict_of}
use Rattle.ph_sign.specs.declared.verdicts.Verdict.TheVariants.{Good}
use Rattle.ph_sign.proofs.DecimalLemmas.{decimal_no_comma, number_in-decimal}
use Rattle.ph_sign.proofs.ItemLemmas.{value_found}
use Rattle.ph_sign.proofs.VerdictLemmas.{by_tests}

abbrev IsNoComma : ℕ → Type 0
IsNoComma b = is_comma b ≡ false

-- ---- hexadecimal text has no comma

index_no_comma : (xs : List ℕ) (k : ℕ) → list_all (λ b. not (is_comma b)) xs ≡ true → IsNoComma (slice_index xs k)
index_no_comma [] k h = refl
index_no_comma (x ∷ xs) zero h = let parts = and_parts (not (is_comma x)) (list_all (λ b. not (is_comma b)) xs) h in not_true (is_comma x) parts.0
  where
    not_true : (b : Bool) → not b ≡ true → b ≡ false
    not_true true e = sym e
    not_true false e = refl
index_no_comma (x ∷ xs) (suc k) h = let parts = and_parts (not (is_comma x)) (list_all (λ b. not (is_comma b)) xs) h in index_no_comma xs k parts.1

hex_no_comma : (bytes : List ℕ) → All IsNoComma (encode_lower bytes)
unfolding encode_with
hex_no_comma [] = All-nil IsNoComma
hex_no_comma (b ∷ rest) =
    All-cons IsNoComma (slice_index lower_digits (b / 16)) (slice_index lower_digits (b % 16) ∷ encode_lower rest) (index_no_comma lower_digits (b / 16) refl)
    (All-cons IsNoComma (slice_index lower_digits (b % 16)) (encode_lower rest) (index_no_comma lower_digits (b % 16) refl) (hex_no_comma rest))

-- ---- the items of a header

split_items : (item : List ℕ → List ℕ) → ((secret : List ℕ) → All IsNoComma (item secret)) → (front : List ℕ) (secrets : List (List ℕ)) → All IsNoComma front
    → slice_split is_comma (front ++ flat_map (λ secret. 44 ∷ item secret) secrets) ≡ front ∷ map item secrets
split_items item none front [] h = rw append-nil (slice_split_none is_comma front h)
split_items item none front (secret ∷ secrets) h =
    slice_split_at is_comma front 44 (item secret ++ flat_map (λ s. 44 ∷ item s) secrets) h refl
    ∙ ap (λ parts. front ∷ parts) (split_items item none (item secret) secrets (none secret))

-- the item of a secret, without the comma in front
abbrev item_of : ℕ → List ℕ → List ℕ → List ℕ
item_of t body secret = codes "v1=" ++ signature_of secret t body

item_no_comma : (t : ℕ) (body secret : List ℕ) → All IsNoComma (item_of t body secret)
item_no_comma t body secret =
    All-cons IsNoComma 118 (49 ∷ 61 ∷ signature_of secret t body) refl (All-cons IsNoComma 49 (61 ∷ signature_of secret t body) refl
    (All-cons IsNoComma 61 (signature_of secret t body) refl (hex_no_comma _)))

moment_no_comma : (t : ℕ) → t < 2 ^ 64 → All IsNoComma (codes "t=" ++ decimal t)
moment_no_comma t small =
    All-cons IsNoComma 116 (61 ∷ decimal t) refl (All-cons IsNoComma 61 (decimal t) refl (decimal_no_comma t small))

items_of_header : (secrets : List (List ℕ)) (t : ℕ) (body : List ℕ) → t < 2 ^ 64
    → slice_split is_comma (signature_header secrets t body) ≡ (codes "t=" ++ decimal t) ∷ map (item_of t body) secrets
items_of_header secrets t body small =
    split_items (item_of t body) (item_no_comma t body) (codes "t=" ++ decimal t) secrets (moment_no_comma t small)

-- ---- their values

value_of_t : (rest : List ℕ) → value_in (codes "t") (116 ∷ 61 ∷ rest) ≡ Some rest
value_of_t rest =
    let within : nat_lt 1 (length (116 ∷ 61 ∷ rest)) ≡ true = grind (arith, nat_tests) in
    let place : Some 1 ≡ position is_equals (116 ∷ 61 ∷ rest) = rw within refl in
    sym (value_found (codes "t") (116 ∷ 61 ∷ rest) 1 true place refl)

no_value_of_t : (rest : List ℕ) → value_in (codes "v1") (116 ∷ 61 ∷ rest) ≡ None
no_value_of_t rest =
    let within : nat_lt 1 (length (116 ∷ 61 ∷ rest)) ≡ true = grind (arith, nat_tests) in
    let place : Some 1 ≡ position is_equals (116 ∷ 61 ∷ rest) = rw within refl in
    sym (value_found (codes "v1") (116 ∷ 61 ∷ rest) 1 false place refl)

value_of_v1 : (rest : List ℕ) → value_in (codes "v1") (118 ∷ 49 ∷ 61 ∷ rest) ≡ Some rest
value_of_v1 rest =
    let within : nat_lt 2 (length (118 ∷ 49 ∷ 61 ∷ rest)) ≡ true = grind (arith, nat_tests) in
    let place : Some 2 ≡ position is_equals (118 ∷ 49 ∷ 61 ∷ rest) = rw within refl in
    sym (value_found (codes "v1") (118 ∷ 49 ∷ 61 ∷ rest) 2 true place refl)

moment_of_header : (secrets : List (List ℕ)) (t : ℕ) (body : List ℕ) → t < 2 ^ 64 → moment_of (signature_header secrets t body) ≡ Some t
moment_of_header secrets t body small =
    let first : first_of (values_of (codes "t") (signature_header secrets t body)) ≡ Some (decimal t) =
    ap (λ items. first_of (filter_map (value_in (codes "t")) items)) (items_of_header secrets t body small) ∙ rw (value_of_t (decimal t)) refl in
    ap (option_and_then number_in) first ∙ number_in-decimal t small

values_of_items : (t : ℕ) (body : List ℕ) (secrets : List (List ℕ))
    → filter_map (value_in (codes "v1")) (map (item_of t body) secrets) ≡ map (λ secret. signature_of secret t body) secrets
values_of_items t body [] = refl
values_of_items t body (secret ∷ secrets) = rw (value_of_v1 (signature_of secret t body), values_of_items t body secrets) refl

values_of_header : (secrets : List (List ℕ)) (t : ℕ) (body : List ℕ) → t < 2 ^ 64
    → values_of (codes "v1") (signature_header secrets t body) ≡ map (λ secret. signature_of secret t body) secrets
values_of_header secrets t body small =
    ap (filter_map (value_in (codes "v1"))) (items_of_header secrets t body small)
    ∙ rw (no_value_of_t (decimal t)) (values_of_items t body secrets)

-- ---- the verdict

bytes_eq_same : (xs : List ℕ) → bytes_eq xs xs ≡ true
bytes_eq_same [] = refl
bytes_eq_same (x ∷ xs) = let same : nat_eq x x ≡ true = grind (arith, nat_tests) in rw (same, bytes_eq_same xs) refl

or_true : (b : Bool) → (b || true) ≡ true
or_true true = refl
or_true false = refl

one_matches : (sign : List ℕ → List ℕ) (secrets : List (List ℕ)) (secret : List ℕ) (k : ℕ) → k < length secrets → get_or secrets k secret ≡ secret
    → list_any (λ value. bytes_eq value (sign secret)) (map sign secrets) ≡ true
one_matches sign [] secret k within at = absurd (omega arith)
one_matches sign (s ∷ secrets) secret zero within at = rw (at, bytes_eq_same (sign secret)) refl
one_matches sign (s ∷ secrets) secret (suc k) within at =
    rw (one_matches sign secrets secret k (omega arith) at) (or_true _)

judged_signed : (t : ℕ) (signatures : List (List ℕ)) (secret body : List ℕ) (now tolerance : ℕ)
    → list_any (λ value. bytes_eq value (signature_of secret t body)) signatures ≡ true
    → judged (Some t) signatures secret body now tolerance ≡ by_tests true (is_old t now tolerance)
judged_signed t [] secret body now tolerance h = cc
judged_signed t (value ∷ values) secret body now tolerance h = rw h refl

pub header_good : (secrets : List (List ℕ)) (t : ℕ) (body secret : List ℕ) (now tolerance : ℕ)
    → t < 2 ^ 64 → Contains secrets secret → now ≤ t + tolerance
    → verdict_of (signature_header secrets t body) secret body now tolerance ≡ Good
header_good secrets t body secret now tolerance small (k, within, at) soon =
    let signed = one_matches (λ s. signature_of s t body) secrets secret k within at in
    let young : is_old t now tolerance ≡ false = grind (arith, nat_tests) in
    let judge = judged_signed t (map (λ s. signature_of s t body) secrets) secret body now tolerance signed in
    rw (moment_of_header secrets t body small, values_of_header secrets t body small, judge, young) refl
