-- Texts that stand in JSON as they are, as those of ASCII without quotation marks, backslashes and control bytes.
use Rattle.std.proofs.Common.{◌≡◌, ℕ, zero, suc, ◌<◌, List, [], ◌∷◌, ◌++◌, fold, Bool, true, false, ◌&&◌, nat_lt, nat_cmp, refl, ap, ◌∙◌, arith, rules}
use Rattle.std.proofs.lemmas.Slice.Eq.{bytes_eq-Decides}
use Rattle.std.proofs.lemmas.Str.{utf8_lossy-IsUtf8, IsUtf8-from_ascii}
use Rattle.std.specs.BTreeMap.{insert_entry}
use Rattle.std.specs.Cmp.Lexicographic.{slice_cmp}
use Rattle.std.specs.List.{list_all, slice_index}
use Rattle.std.specs.Str.{bytes_eq}
use Rattle.std.specs.Str.Lossy.{utf8_lossy}
use Rattle.json.specs.Print.{escape, escape_byte, quoted}
use Rattle.ph_json.specs.Text.{by_key}
use borrow.Author.Tests.{ltb-true}

-- an ASCII byte that is not escaped
unfoldable pub is_plain_byte : ℕ → Bool
is_plain_byte x = nat_lt x 128 && bytes_eq (escape_byte x) (x ∷ [])

abbrev pub is_plain : List ℕ → Bool
is_plain = list_all is_plain_byte

both_left : (a b : Bool) → (a && b) ≡ true → a ≡ true
both_left true b h = refl
both_left false b h = h

both_right : (a b : Bool) → (a && b) ≡ true → b ≡ true
both_right true b h = h
both_right false b h = search rules

equal_bytes : (xs ys : List ℕ) → bytes_eq xs ys ≡ true → xs ≡ ys
equal_bytes xs ys h = (bytes_eq-Decides xs ys).0 h

escape_byte-plain : (x : ℕ) → is_plain_byte x ≡ true → escape_byte x ≡ x ∷ []
unfolding is_plain_byte
escape_byte-plain x h = equal_bytes (escape_byte x) (x ∷ []) (both_right (nat_lt x 128) _ h)

ascii-plain : (x : ℕ) → is_plain_byte x ≡ true → x < 128
unfolding is_plain_byte
ascii-plain x h = ltb-true x 128 (both_left (nat_lt x 128) _ h)

escape-plain : (s : List ℕ) → is_plain s ≡ true → escape s ≡ s
escape-plain [] h = refl
escape-plain (x ∷ s) h =
    rw (escape_byte-plain x (both_left _ _ h)) (ap (λ rest. x ∷ rest) (escape-plain s (both_right _ _ h)))

is_ascii-plain : (s : List ℕ) → is_plain s ≡ true → (i : ℕ) → slice_index s i < 128
is_ascii-plain [] h i = omega arith
is_ascii-plain (x ∷ s) h zero = ascii-plain x (both_left _ _ h)
is_ascii-plain (x ∷ s) h (suc i) = is_ascii-plain s (both_right _ _ h) i

pub utf8_lossy-plain : (s : List ℕ) → is_plain s ≡ true → utf8_lossy s ≡ s
utf8_lossy-plain s h = utf8_lossy-IsUtf8 s (IsUtf8-from_ascii s (is_ascii-plain s h))

-- a plain text stands between its quotation marks as it is
pub quoted-plain : (s : List ℕ) → is_plain s ≡ true → quoted (utf8_lossy s) ≡ 34 ∷ (s ++ 34 ∷ [])
quoted-plain s h = rw (utf8_lossy-plain s h, escape-plain s h) refl

-- members whose keys are plain, by their keys as they are
abbrev pub by_plain_key : List (List ℕ × List ℕ) → List (List ℕ × List ℕ) → List (List ℕ × List ℕ)
by_plain_key sorted members = fold (λ all member. insert_entry (slice_cmp nat_cmp) all member.0 member.1) sorted members

by_key-from : (sorted members : List (List ℕ × List ℕ)) → list_all (λ member. is_plain member.0) members ≡ true
    → fold (λ all member. insert_entry (slice_cmp nat_cmp) all (utf8_lossy member.0) member.1) sorted members ≡ by_plain_key sorted members
by_key-from sorted [] h = refl
by_key-from sorted (m ∷ members) h =
    ap (λ key. fold (λ all member. insert_entry (slice_cmp nat_cmp) all (utf8_lossy member.0) member.1) (insert_entry (slice_cmp nat_cmp) sorted key m.1) members)
    (utf8_lossy-plain m.0 (both_left _ _ h))
    ∙ by_key-from (insert_entry (slice_cmp nat_cmp) sorted m.0 m.1) members (both_right _ _ h)

pub by_key-plain : (members : List (List ℕ × List ℕ)) → list_all (λ member. is_plain member.0) members ≡ true → by_key members ≡ by_plain_key [] members
by_key-plain members h = by_key-from [] members h
