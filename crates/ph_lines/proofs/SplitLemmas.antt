-- Cutting a line at its spaces, and joining its fields.
use Rattle.std.proofs.Common.{◌≡◌, ℕ, ◌+◌, suc, ◌<◌, ◌≤◌, not, Bool, true, false, ◌||◌, cond, List, [], ◌∷◌, ◌++◌, length, take, drop, nat_lt, Option, Some, None, refl, sym, ap, ◌∙◌, arith}
use Rattle.std.specs.Prelude.{position, ◌==◌, ◌&&◌}
use Rattle.std.proofs.lemmas.Bool.Decides.{nat_tests}
use Rattle.std.specs.List.{slice_split, onto_first, list_any, list_all, count_by, join_with_byte, position_or_len}
use Rattle.std.proofs.lemmas.Bool.{ltb-true, ltb-false}
use Rattle.std.proofs.lemmas.List.Splits.{length-slice_split, slice_split_first, join_with_byte-slice_split}
use Rattle.ph_lines.specs.Fields.{joined}
use Rattle.ph_lines.specs.Reading.{is_space}

place_is : (b : Bool) (n at : ℕ) → Some at ≡ cond b (Some n) None → (b ≡ true) × (n ≡ at)
place_is true n at h = (refl, cc)
place_is false n at h = absurd cc

-- a line is cut at its first space
pub cut_found : (line : List ℕ) (at : ℕ) → Some at ≡ position is_space line → slice_split is_space line ≡ take at line ∷ slice_split is_space (drop (at + 1) line)
cut_found line at h =
    let place = place_is (nat_lt (position_or_len is_space line) (length line)) (position_or_len is_space line) at h in
    rw (← place.1) (slice_split_first is_space line 0 (ltb-true _ _ place.0))

or_parts : (a b : Bool) → (a || b) ≡ false → (a ≡ false) × (b ≡ false)
or_parts true b h = absurd cc
or_parts false b h = (refl, h)

pub split_last : (word : List ℕ) → list_any is_space word ≡ false → slice_split is_space word ≡ word ∷ []
split_last [] h = refl
split_last (b ∷ bytes) h =
    let parts = or_parts (is_space b) (list_any is_space bytes) h in
    rw (parts.0, split_last bytes parts.1) refl

pub split_more : (word rest : List ℕ) → list_any is_space word ≡ false → slice_split is_space (word ++ 32 ∷ rest) ≡ word ∷ slice_split is_space rest
split_more [] rest h = refl
split_more (b ∷ bytes) rest h =
    let parts = or_parts (is_space b) (list_any is_space bytes) h in
    rw (parts.0, split_more bytes rest parts.1) refl

none_is : (b : Bool) (n : ℕ) → None ≡ cond b (Some n) None → b ≡ false
none_is true n h = absurd cc
none_is false n h = refl

-- where no element passes, none is found
plain_beyond : (line : List ℕ) → length line ≤ position_or_len is_space line → list_any is_space line ≡ false
plain_beyond [] h = refl
plain_beyond (b ∷ bytes) h = at (is_space b) refl h (plain_beyond bytes)
  where
    at : (t : Bool) → is_space b ≡ t → suc (length bytes) ≤ cond (not t) (1 + position_or_len is_space bytes) 0 → (length bytes ≤ position_or_len is_space bytes → list_any is_space bytes ≡ false) → list_any is_space (b ∷ bytes) ≡ false
    at true e more plain = absurd (omega arith)
    at false e more plain = rw (e, plain (omega arith)) refl

none_from_position : (line : List ℕ) → None ≡ position is_space line → list_any is_space line ≡ false
none_from_position line h = plain_beyond line (ltb-false _ _ (none_is (nat_lt (position_or_len is_space line) (length line)) (position_or_len is_space line) h))

-- a line without a space is one field
pub cut_none : (line : List ℕ) → None ≡ position is_space line → slice_split is_space line ≡ line ∷ []
cut_none line h = split_last line (none_from_position line h)

-- a byte above the space
abbrev pub is_shown : ℕ → Bool
is_shown b = nat_lt 32 b

-- a shown byte is neither a space nor an LF
pub shown_other : (b k : ℕ) → k ≤ 32 → nat_lt 32 b ≡ true → (b == k) ≡ false
shown_other b k low h = let high = ltb-true 32 b h in grind (arith, nat_tests)

and_both : (a b : Bool) → (a && b) ≡ true → (a ≡ true) × (b ≡ true)
and_both true b h = (refl, h)
and_both false b h = absurd cc

pub shown_without : (k : ℕ) → k ≤ 32 → (word : List ℕ) → list_all is_shown word ≡ true → list_any (λ b. b == k) word ≡ false
shown_without k low [] h = refl
shown_without k low (b ∷ bytes) h =
    let parts = and_both (is_shown b) (list_all is_shown bytes) h in
    rw (shown_other b k low parts.0, shown_without k low bytes parts.1) refl

-- fields of shown bytes
abbrev pub AreWords : List (List ℕ) → Type 0
AreWords [] = Unit {0}
AreWords (word ∷ words) = (list_all is_shown word ≡ true) × AreWords words

any_append : (k : ℕ) (xs ys : List ℕ) → list_any (λ b. b == k) xs ≡ false → list_any (λ b. b == k) ys ≡ false → list_any (λ b. b == k) (xs ++ ys) ≡ false
any_append k [] ys hx hy = hy
any_append k (x ∷ xs) ys hx hy =
    let parts = or_parts (x == k) (list_any (λ b. b == k) xs) hx in
    rw (parts.0, any_append k xs ys parts.1 hy) refl

-- joined fields have no LF
pub joined_plain : (word : List ℕ) (words : List (List ℕ)) → AreWords (word ∷ words) → list_any (λ b. b == 10) (joined (word ∷ words)) ≡ false
joined_plain word [] h = shown_without 10 (omega arith) word h.0
joined_plain word (next ∷ words) h = any_append 10 word (32 ∷ joined (next ∷ words)) (shown_without 10 (omega arith) word h.0) (joined_plain next words h.1)

-- joined fields are cut into themselves
pub split_joined : (word : List ℕ) (words : List (List ℕ)) → AreWords (word ∷ words) → slice_split is_space (joined (word ∷ words)) ≡ word ∷ words
split_joined word [] h = split_last word (shown_without 32 (omega arith) word h.0)
split_joined word (next ∷ words) h = split_more word (joined (next ∷ words)) (shown_without 32 (omega arith) word h.0) ∙ ap (λ fields. word ∷ fields) (split_joined next words h.1)

-- what is cut into fields is these, joined
pub joined_split : (line : List ℕ) → joined (slice_split is_space line) ≡ line
joined_split line = join_with_byte-slice_split 32 line

nonzero : (n m : ℕ) → n ≡ m + 1 → false ≡ (n == 0)
nonzero n m e = grind (arith, nat_tests)

-- what is left of a line is fields, where something is left
pub some_left : (line : List ℕ) → false ≡ (length (slice_split is_space line) == 0)
some_left line = nonzero (length (slice_split is_space line)) (count_by is_space line) (length-slice_split is_space line)
