-- The leaves of a request are UTF-8, whatever its bytes.
use Rattle.std.proofs.Common.{◌≡◌, ℕ, zero, suc, ◌+◌, ◌<◌, ◌≤◌, ◌/◌, ◌%◌, ◌==◌, ◌&&◌, Bool, true, false, cond, List, [], ◌∷◌, ◌++◌, length, take, drop, map, Option, Some, None, Result, Ok, Err, IfOk, IfSome, nat_lt, slice_index, unwrap_or, length-drop, refl, subst, arith}
use lib.Utf8.{encode}
use Rattle.std.proofs.lemmas.Bool.Decides.{nat_tests}
use Rattle.std.proofs.lemmas.List.{take_all}
use Rattle.std.proofs.lemmas.List.Folds.{list_all-append}
use Rattle.std.proofs.lemmas.Str.{IsUtf8-append, IsUtf8-nil, IsUtf8-from_ascii, IsUtf8-from_is_utf8, is_utf8-from_IsUtf8, utf8_valid_len_le}
use Rattle.std.specs.Int.{is_in_range}
use Rattle.std.specs.Fmt.{decimal, digits, digits_onto, digit_glyph}
use Rattle.std.specs.List.{list_all}
use Rattle.std.specs.Str.{IsAscii, IsUtf8, is_utf8}
use Rattle.std.specs.Str.Lossy.{valid_len_up_to, utf8_valid_len, second_byte_min, second_byte_max, error_len_after_two, error_len_after_one, error_len_of_some, utf8_error_len, utf8_invalid_len, after_first_chunk, replacement_bytes, utf8_lossy_within, utf8_lossy}
use Rattle.form_urlencoded.specs.Form.{decode, raw_pairs}
use Rattle.ph_form.specs.declared.fault.FormFault.{FormFault}
use Rattle.ph_form.specs.declared.fault.FormFault.TheVariants.{BadName, Clash, TooDeep}
use Rattle.ph_form.specs.declared.leaf.Leaf.{Leaf}
use Rattle.ph_form.specs.Leaves.{added, added_under, clashes, filled, key_or_free, least_free, leaves_from, leaves_of, placed}
use Rattle.ph_form.specs.Names.{base_of, child, keys_of}
use Rattle.ph_form.specs.Order.{is_leaf_utf8, put}
use Rattle.ph_form.specs.Pairs.{pair_of, pairs_in, pairs_of, text_of}
use Rattle.ph_form.proofs.MapLemmas.{all_put, first_of_all, rest_of_all}
use Rattle.ph_form.proofs.Utf8Lemmas.{base_utf8, both_utf8, name_keys_utf8}

-- the front of a text that is UTF-8, up to a length
front_utf8 : (bs : List ℕ) (n : ℕ) → IsUtf8 (take (valid_len_up_to bs n) bs)
front_utf8 bs zero = IsUtf8-nil
front_utf8 bs (suc n) = at (is_utf8 (take (suc n) bs)) refl (front_utf8 bs n)
  where
    at : (t : Bool) → is_utf8 (take (suc n) bs) ≡ t → IsUtf8 (take (valid_len_up_to bs n) bs) → IsUtf8 (take (cond t (suc n) (valid_len_up_to bs n)) bs)
    at true e shorter = IsUtf8-from_is_utf8 (take (suc n) bs) e
    at false e shorter = shorter

valid_utf8 : (bs : List ℕ) → IsUtf8 (take (utf8_valid_len bs) bs)
unfolding utf8_valid_len
valid_utf8 bs = front_utf8 bs (length bs)

no_bytes_utf8 : (bs : List ℕ) → length bs ≤ 0 → IsUtf8 bs
no_bytes_utf8 [] h = IsUtf8-nil
no_bytes_utf8 (b ∷ bs) h = absurd (omega arith)

replacement_utf8 : IsUtf8 replacement_bytes
unfolding encode
replacement_utf8 = (65533 ∷ [], (refl, refl))

is_whole : (m n : ℕ) → (m == n) ≡ true → n ≤ m
is_whole m n e = grind (arith, nat_tests)

is_cut : (m n : ℕ) → (m == n) ≡ false → ¬ (m ≡ n)
is_cut m n e same = grind (arith, nat_tests)

-- an invalid sequence has a byte
after_two_pos : (bs : List ℕ) → 0 < length bs → 0 < unwrap_or (error_len_after_two bs) (length bs)
after_two_pos bs some = at (nat_lt (length bs) 3) (is_in_range 0x80 0xBF (slice_index bs 2)) (nat_lt (length bs) 4)
  where
    at : (a b c : Bool) → 0 < unwrap_or (cond a None (cond b (cond c None (Some 3)) (Some 2))) (length bs)
    at true b c = some
    at false true true = some
    at false true false = omega arith
    at false false c = omega arith

after_one_pos : (bs : List ℕ) → 0 < length bs → 0 < unwrap_or (error_len_after_one bs) (length bs)
after_one_pos bs some =
    at (nat_lt (length bs) 2) (is_in_range (second_byte_min (slice_index bs 0)) (second_byte_max (slice_index bs 0)) (slice_index bs 1))
  where
    at : (a b : Bool) → 0 < unwrap_or (cond a None (cond b (error_len_after_two bs) (Some 1))) (length bs)
    at true b = some
    at false true = after_two_pos bs some
    at false false = omega arith

of_some_pos : (bs : List ℕ) → 0 < length bs → 0 < unwrap_or (error_len_of_some bs) (length bs)
of_some_pos bs some = at (is_in_range 0xC2 0xF4 (slice_index bs 0))
  where
    at : (a : Bool) → 0 < unwrap_or (cond a (error_len_after_one bs) (Some 1)) (length bs)
    at true = after_one_pos bs some
    at false = omega arith

invalid_pos : (bs : List ℕ) → 0 < length bs → 0 < utf8_invalid_len bs
unfolding utf8_error_len
invalid_pos bs some = at (length bs == 0)
  where
    at : (a : Bool) → 0 < unwrap_or (cond a None (error_len_of_some bs)) (length bs)
    at true = some
    at false = of_some_pos bs some

shorter_after : (bs : List ℕ) → ¬ (utf8_valid_len bs ≡ length bs) → length (after_first_chunk bs) < length bs
shorter_after bs cut =
    let n : ℕ = utf8_valid_len bs in
    let within : n ≤ length bs = utf8_valid_len_le bs in
    let some = invalid_pos (drop n bs) (omega (arith, length-drop n bs)) in
    omega (arith, length-drop (n + utf8_invalid_len (drop n bs)) bs)

-- what stands for bytes that may be none
within_utf8 : (k : ℕ) (bs : List ℕ) → length bs ≤ k → IsUtf8 (utf8_lossy_within k bs)
within_utf8 zero bs h = no_bytes_utf8 bs h
within_utf8 (suc k) bs h = at (utf8_valid_len bs == length bs) refl (within_utf8 k (after_first_chunk bs))
  where
    at : (t : Bool) → (utf8_valid_len bs == length bs) ≡ t
        → (length (after_first_chunk bs) ≤ k → IsUtf8 (utf8_lossy_within k (after_first_chunk bs)))
        → IsUtf8 (cond t bs (take (utf8_valid_len bs) bs ++ (replacement_bytes ++ utf8_lossy_within k (after_first_chunk bs))))
    at true e more = subst IsUtf8 (take_all (utf8_valid_len bs) bs (is_whole (utf8_valid_len bs) (length bs) e)) (valid_utf8 bs)
    at false e more =
        let shorter = shorter_after bs (is_cut (utf8_valid_len bs) (length bs) e) in
        IsUtf8-append (take (utf8_valid_len bs) bs) (replacement_bytes ++ utf8_lossy_within k (after_first_chunk bs)) (valid_utf8 bs)
        (IsUtf8-append replacement_bytes (utf8_lossy_within k (after_first_chunk bs)) replacement_utf8 (more (omega arith)))

lossy_utf8 : (bs : List ℕ) → IsUtf8 (utf8_lossy bs)
unfolding utf8_lossy
lossy_utf8 bs = within_utf8 (length bs) bs (omega arith)

-- both texts of a pair
abbrev is_pair_utf8 : List ℕ × List ℕ → Bool
is_pair_utf8 pair = is_utf8 pair.0 && is_utf8 pair.1

and : {a b : Bool} → a ≡ true → b ≡ true → (a && b) ≡ true
and p q = rw (p, q) refl

pair_utf8 : (raw : List ℕ × List ℕ) → is_pair_utf8 (pair_of raw) ≡ true
pair_utf8 raw = and (is_utf8-from_IsUtf8 (text_of raw.0) (lossy_utf8 (decode raw.0))) (is_utf8-from_IsUtf8 (text_of raw.1) (lossy_utf8 (decode raw.1)))

decoded_utf8 : (raws : List (List ℕ × List ℕ)) → list_all is_pair_utf8 (map pair_of raws) ≡ true
decoded_utf8 [] = refl
decoded_utf8 (raw ∷ raws) = and (pair_utf8 raw) (decoded_utf8 raws)

pairs_utf8 : (query body : List ℕ) → list_all is_pair_utf8 (pairs_in query body) ≡ true
pairs_utf8 query body =
    rw (list_all-append is_pair_utf8 (pairs_of query) (pairs_of body)) (and (decoded_utf8 (raw_pairs query)) (decoded_utf8 (raw_pairs body)))

-- the digits of a number
ascii_with : (b : ℕ) (bs : List ℕ) → b < 128 → IsAscii bs → IsAscii (b ∷ bs)
ascii_with b bs h a zero = h
ascii_with b bs h a (suc i) = a i

no_ascii : IsAscii []
no_ascii i = omega arith

glyph_small : (n : ℕ) → digit_glyph false (n % 10) < 128
glyph_small n = at (nat_lt (n % 10) 10) refl
  where
    at : (t : Bool) → nat_lt (n % 10) 10 ≡ t → cond t (48 + n % 10) (87 + n % 10) < 128
    at true e = grind (arith, nat_tests)
    at false e = grind (arith, nat_tests)

digits_ascii : (k n : ℕ) (bs : List ℕ) → IsAscii bs → IsAscii (digits_onto k 10 false n bs)
digits_ascii zero n bs a = a
digits_ascii (suc k) n bs a = at (n / 10 == 0) (ascii_with (digit_glyph false (n % 10)) bs (glyph_small n) a) (digits_ascii k (n / 10) (digit_glyph false (n % 10) ∷ bs))
  where
    at : (t : Bool) → IsAscii (digit_glyph false (n % 10) ∷ bs)
        → (IsAscii (digit_glyph false (n % 10) ∷ bs) → IsAscii (digits_onto k 10 false (n / 10) (digit_glyph false (n % 10) ∷ bs)))
        → IsAscii (cond t (digit_glyph false (n % 10) ∷ bs) (digits_onto k 10 false (n / 10) (digit_glyph false (n % 10) ∷ bs)))
    at true one more = one
    at false one more = more one

decimal_utf8 : (n : ℕ) → IsUtf8 (decimal n)
unfolding digits
decimal_utf8 n = IsUtf8-from_ascii (decimal n) (digits_ascii 64 n [] no_ascii)

-- a name that is filled
bracket_utf8 : (b : ℕ) → b < 128 → IsUtf8 (b ∷ [])
bracket_utf8 b h = IsUtf8-from_ascii (b ∷ []) (ascii_with b [] h no_ascii)

child_utf8 : (beginning key : List ℕ) → IsUtf8 beginning → IsUtf8 key → IsUtf8 (child beginning key)
child_utf8 beginning key b k =
    IsUtf8-append beginning (91 ∷ (key ++ (93 ∷ []))) b
    (IsUtf8-append (91 ∷ []) (key ++ 93 ∷ []) (bracket_utf8 91 (omega arith)) (IsUtf8-append key (93 ∷ []) k (bracket_utf8 93 (omega arith))))

key_utf8 : (leaves : List Leaf) (beginning key : List ℕ) → IsUtf8 key → IsUtf8 (key_or_free leaves beginning key)
key_utf8 leaves beginning key u = at (length key == 0)
  where
    at : (b : Bool) → IsUtf8 (cond b (decimal (least_free leaves beginning)) key)
    at true = decimal_utf8 (least_free leaves beginning)
    at false = u

name_utf8 : (leaves : List Leaf) (beginning : List ℕ) (keys : List (List ℕ)) → IsUtf8 beginning → list_all is_utf8 keys ≡ true
    → IsUtf8 (filled leaves beginning keys)
name_utf8 leaves beginning [] b k = b
name_utf8 leaves beginning (key ∷ keys) b k =
    name_utf8 leaves (child beginning (key_or_free leaves beginning key)) keys
    (child_utf8 beginning _ b (key_utf8 leaves beginning key (IsUtf8-from_is_utf8 key (first_of_all (is_utf8 key) (list_all is_utf8 keys) k))))
    (rest_of_all (is_utf8 key) (list_all is_utf8 keys) k)

-- the names and the texts of leaves
abbrev pub AreLeavesUtf8 : List Leaf → Type 0
AreLeavesUtf8 leaves = list_all is_leaf_utf8 leaves ≡ true

placed_utf8 : (place : ℕ) (leaves : List Leaf) (name text : List ℕ) → AreLeavesUtf8 leaves → IsUtf8 name → IsUtf8 text
    → IfOk (placed place leaves name text) AreLeavesUtf8
placed_utf8 place leaves name text w n t = at (clashes leaves name)
  where
    at : (b : Bool) → IfOk (cond b (Err (Clash place)) (Ok (put (record { name = name; text = text }) leaves))) AreLeavesUtf8
    at true = tt
    at false = all_put is_leaf_utf8 (record { name = name; text = text }) leaves (both_utf8 name text n t) w

under_utf8 : (place : ℕ) (leaves : List Leaf) (base : List ℕ) (keys : Option (List (List ℕ))) (text : List ℕ) → AreLeavesUtf8 leaves
    → IsUtf8 base → IfSome keys (λ found. list_all is_utf8 found ≡ true) → IsUtf8 text
    → IfOk (added_under place leaves base keys text) AreLeavesUtf8
under_utf8 place leaves base None text w b k t = tt
under_utf8 place leaves base (Some keys) text w b k t = at (length base == 0) (nat_lt 4 (length keys))
  where
    at : (empty deep : Bool) → IfOk (cond empty (Err (BadName place)) (cond deep (Err (TooDeep place)) (placed place leaves (filled leaves base keys) text))) AreLeavesUtf8
    at true deep = tt
    at false true = tt
    at false false = placed_utf8 place leaves (filled leaves base keys) text w (name_utf8 leaves base keys b k) t

keys_utf8 : (name : List ℕ) (found : Option (List (List ℕ))) → IsUtf8 name → keys_of name ≡ found → IfSome found (λ keys. list_all is_utf8 keys ≡ true)
keys_utf8 name None u e = tt
keys_utf8 name (Some keys) u e = name_keys_utf8 name keys u e

added_utf8 : (place : ℕ) (leaves : List Leaf) (pair : List ℕ × List ℕ) → AreLeavesUtf8 leaves → is_pair_utf8 pair ≡ true
    → IfOk (added place leaves pair) AreLeavesUtf8
added_utf8 place leaves pair w p =
    let name : IsUtf8 pair.0 = IsUtf8-from_is_utf8 pair.0 (first_of_all (is_utf8 pair.0) (is_utf8 pair.1) p) in
    let text : IsUtf8 pair.1 = IsUtf8-from_is_utf8 pair.1 (rest_of_all (is_utf8 pair.0) (is_utf8 pair.1) p) in
    under_utf8 place leaves (base_of pair.0) (keys_of pair.0) pair.1 w (base_utf8 pair.0 name) (keys_utf8 pair.0 (keys_of pair.0) name refl) text

from_utf8 : (place : ℕ) (so_far : Result (List Leaf) FormFault) (pairs : List (List ℕ × List ℕ)) → IfOk so_far AreLeavesUtf8
    → list_all is_pair_utf8 pairs ≡ true → IfOk (leaves_from place so_far pairs) AreLeavesUtf8
from_utf8 place (Err fault) pairs w p = tt
from_utf8 place (Ok leaves) [] w p = w
from_utf8 place (Ok leaves) (pair ∷ pairs) w p =
    from_utf8 (place + 1) (added place leaves pair) pairs
    (added_utf8 place leaves pair w (first_of_all (is_pair_utf8 pair) (list_all is_pair_utf8 pairs) p))
    (rest_of_all (is_pair_utf8 pair) (list_all is_pair_utf8 pairs) p)

-- the leaves of a query and a body
pub leaves_utf8 : (query body : List ℕ) → IfOk (leaves_of (pairs_in query body)) AreLeavesUtf8
leaves_utf8 query body = from_utf8 0 (Ok []) (pairs_in query body) refl (pairs_utf8 query body)
