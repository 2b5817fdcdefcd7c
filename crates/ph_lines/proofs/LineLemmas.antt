-- Reading until a line is there.
use Rattle.std.proofs.Common.{◌≡◌, ℕ, ◌+◌, ◌-◌, ◌<◌, ◌≤◌, suc, get_or, ◌||◌, Bool, true, false, not, inl, inr, Option, Some, None, cond, nat_lt, List, [], ◌∷◌, ◌++◌, length, take, drop, refl, sym, ap, ◌∙◌, append_assoc, arith}
use Rattle.std.specs.Prelude.{◌==◌, position}
use Rattle.std.specs.List.{position_or_len, list_any}
use Rattle.std.proofs.lemmas.List.{append-nil, length-append, length-take, take-append-le, drop-append-le, take_at, drop_at, drop-drop}
use Rattle.std.proofs.lemmas.Bool.{eqb-true, eqb-false, ltb-false, ltb-true, le-ltb, lt-ltb, cases_lt}
use Rattle.std.proofs.lemmas.Bool.Decides.{nat_tests}
use Rattle.std.proofs.lemmas.List.Sums.{prefix_len-le-length, split_at_first, passes_at_first}
use Rattle.ph_io.specs.Told.{SourceState}
use Rattle.ph_io.specs.Reads.{Moves}
use Rattle.ph_io.proofs.DeviceLemmas.{moves_nothing}
use Rattle.ph_lines.specs.Lines.{First, Wants, Long, Has, first, first_at, is_lf}

-- some bytes were read so far, and stand behind those that were unread
pub record Reading (old now : List ℕ) (source0 source1 : SourceState) : Type 0 where
  pub bytes : List ℕ
  pub moved : Moves source0 source1 bytes
  pub unread : now ≡ old ++ bytes

pub reads_nothing : (old : List ℕ) (source : SourceState) → Reading old old source source
reads_nothing old source = record { bytes = []; moved = moves_nothing source; unread = sym (append-nil old) }

wants_at : (n : ℕ) (bytes : List ℕ) → first_at n bytes ≡ Wants → length bytes ≤ 300000
wants_at n bytes h = at (nat_lt 300000 n) (n == length bytes) refl refl h
  where
    at : (a b : Bool) → nat_lt 300000 n ≡ a → (n == length bytes) ≡ b → cond a Long (cond b Wants (Has (take n bytes) (drop (n + 1) bytes))) ≡ Wants → length bytes ≤ 300000
    at true b ea eb h = absurd cc
    at false false ea eb h = absurd cc
    at false true ea eb h = let small = ltb-false _ _ ea in let same = eqb-true _ _ eb in omega arith

-- where more is wanted, few bytes are there
pub wants_few : (bytes : List ℕ) → first bytes ≡ Wants → length bytes ≤ 300000
unfolding first
wants_few bytes h = wants_at (position_or_len is_lf bytes) bytes h

-- one read brings the end nearer
pub nearer : (bytes room : List ℕ) (n : ℕ) → first bytes ≡ Wants → 0 < n → n ≤ length room → 400000 - length (bytes ++ take n room) < 400000 - length bytes
nearer bytes room n h some inside =
    let few = wants_few bytes h in
    let long = length-append bytes (take n room) in
    let piece = length-take n room in
    omega arith

-- ---- the place of the first LF

pub within : (bytes : List ℕ) → position_or_len is_lf bytes ≤ length bytes
within bytes = prefix_len-le-length (λ b. not (is_lf b)) bytes

place_is : (b : Bool) (n at : ℕ) → Some at ≡ cond b (Some n) None → at ≡ n
place_is true n at h = cc
place_is false n at h = absurd cc

none_is : (b : Bool) (n : ℕ) → None ≡ cond b (Some n) None → b ≡ false
none_is true n h = absurd cc
none_is false n h = refl

pub is_found : (bytes : List ℕ) (at : ℕ) → Some at ≡ position is_lf bytes → at ≡ position_or_len is_lf bytes
is_found bytes at h = place_is (nat_lt (position_or_len is_lf bytes) (length bytes)) (position_or_len is_lf bytes) at h

pub is_length : (bytes : List ℕ) → None ≡ position is_lf bytes → length bytes ≡ position_or_len is_lf bytes
is_length bytes h =
    let beyond = ltb-false _ _ (none_is (nat_lt (position_or_len is_lf bytes) (length bytes)) (position_or_len is_lf bytes) h) in
    let inside = within bytes in
    omega arith

-- ---- more bytes behind

position_more : (p : ℕ → Bool) (xs ys : List ℕ) → position_or_len p xs < length xs → position_or_len p (xs ++ ys) ≡ position_or_len p xs
position_more p [] ys h = absurd (omega arith)
position_more p (x ∷ xs) ys h = at (p x) refl h (position_more p xs ys)
  where
    at : (t : Bool) → p x ≡ t → cond (not t) (1 + position_or_len p xs) 0 < suc (length xs) → (position_or_len p xs < length xs → position_or_len p (xs ++ ys) ≡ position_or_len p xs) → cond (not (p x)) (1 + position_or_len p (xs ++ ys)) 0 ≡ cond (not (p x)) (1 + position_or_len p xs) 0
    at true e less more = rw e refl
    at false e less more = rw (e, more (omega arith)) refl

position_grows : (p : ℕ → Bool) (xs ys : List ℕ) → position_or_len p xs ≤ position_or_len p (xs ++ ys)
position_grows p [] ys = omega arith
position_grows p (x ∷ xs) ys = at (p x) refl (position_grows p xs ys)
  where
    at : (t : Bool) → p x ≡ t → position_or_len p xs ≤ position_or_len p (xs ++ ys) → cond (not (p x)) (1 + position_or_len p xs) 0 ≤ cond (not (p x)) (1 + position_or_len p (xs ++ ys)) 0
    at true e more = rw e (omega arith)
    at false e more = rw e (omega arith)

-- what a line at the front is
pub record IsFront (bytes line rest : List ℕ) : Type 0 where
  pub short : length line ≤ 300000
  pub place : position_or_len is_lf bytes < length bytes
  pub line_is : line ≡ take (position_or_len is_lf bytes) bytes
  pub rest_is : rest ≡ drop (position_or_len is_lf bytes + 1) bytes

below : (n m : ℕ) → n ≤ m → (n ≡ m → ⊥) → n < m
below n m inside other =
    elim (cases_lt n m) [
      | inl lt ↦ lt
      | inr le ↦ absurd (other (omega arith))
    ]

has_at : (n : ℕ) (bytes line rest : List ℕ) → n ≤ length bytes → first_at n bytes ≡ Has line rest → (n ≤ 300000) × (n < length bytes) × (line ≡ take n bytes) × (rest ≡ drop (n + 1) bytes)
has_at n bytes line rest inside h = at (nat_lt 300000 n) (n == length bytes) refl refl h
  where
    at : (a b : Bool) → nat_lt 300000 n ≡ a → (n == length bytes) ≡ b → cond a Long (cond b Wants (Has (take n bytes) (drop (n + 1) bytes))) ≡ Has line rest → (n ≤ 300000) × (n < length bytes) × (line ≡ take n bytes) × (rest ≡ drop (n + 1) bytes)
    at true b ea eb h = absurd cc
    at false true ea eb h = absurd cc
    at false false ea eb h =
        let small = ltb-false _ _ ea in
        let other = eqb-false _ _ eb in
        (small, below n (length bytes) inside other, cc, cc)

-- a line at the front stays, whatever follows
pub has_more : (bytes line rest more : List ℕ) → first bytes ≡ Has line rest → first (bytes ++ more) ≡ Has line (rest ++ more)
unfolding first
has_more bytes line rest more h =
    let n = position_or_len is_lf bytes in
    let t = has_at n bytes line rest (within bytes) h in
    let same : position_or_len is_lf (bytes ++ more) ≡ n = position_more is_lf bytes more t.1 in
    let long = length-append bytes more in
    let small : nat_lt 300000 n ≡ false = le-ltb _ _ t.0 in
    let other : (n == length (bytes ++ more)) ≡ false = grind (arith, nat_tests) in
    ap (λ k. first_at k (bytes ++ more)) same
    ∙ rw (small, other) (ap (λ l. Has l (drop (n + 1) (bytes ++ more))) (take-append-le n bytes more (omega (arith, t.1)) ∙ sym t.2)
    ∙ ap (Has line) (drop-append-le (n + 1) bytes more (omega (arith, t.1)) ∙ ap (λ r. r ++ more) (sym t.3)))

-- a line that is too long stays so
pub long_more : (bytes more : List ℕ) → first bytes ≡ Long → first (bytes ++ more) ≡ Long
unfolding first
long_more bytes more h = at (nat_lt 300000 (position_or_len is_lf bytes)) (position_or_len is_lf bytes == length bytes) refl h
  where
    at : (a b : Bool) → nat_lt 300000 (position_or_len is_lf bytes) ≡ a → cond a Long (cond b Wants (Has (take (position_or_len is_lf bytes) bytes) (drop (position_or_len is_lf bytes + 1) bytes))) ≡ Long → first_at (position_or_len is_lf (bytes ++ more)) (bytes ++ more) ≡ Long
    at true b e h =
        let far = ltb-true _ _ e in
        let grows = position_grows is_lf bytes more in
        let still : nat_lt 300000 (position_or_len is_lf (bytes ++ more)) ≡ true = lt-ltb _ _ (omega arith) in
        rw still refl
    at false true e h = absurd cc
    at false false e h = absurd cc

-- where more was wanted, a read brings the end nearer
pub smaller : (old new grown room : List ℕ) (n : ℕ) → (first old ≡ Wants) × (new ≡ old) → grown ≡ new ++ take n room → 0 < n → n ≤ length room → 400000 - length grown < 400000 - length old
smaller old new grown room n wants is some inside =
    let e : grown ≡ old ++ take n room = is ∙ ap (λ xs. xs ++ take n room) wants.1 in
    rw e (nearer old room n wants.0 some inside)

-- a line at the front, its LF and what is behind it are the bytes
pub has_text : (bytes line rest : List ℕ) → first bytes ≡ Has line rest → bytes ≡ line ++ 10 ∷ rest
unfolding first
has_text bytes line rest h =
    let n = position_or_len is_lf bytes in
    let t = has_at n bytes line rest (within bytes) h in
    let lf : get_or bytes n 0 ≡ 10 = eqb-true _ _ (passes_at_first is_lf bytes 0 t.1) in
    split_at_first is_lf bytes 0 t.1 ∙ ap (λ b. take n bytes ++ b ∷ drop (n + 1) bytes) lf
    ∙ ap (λ l. l ++ 10 ∷ drop (n + 1) bytes) (sym t.2) ∙ ap (λ r. line ++ 10 ∷ r) (sym t.3)

position_all : (xs ys : List ℕ) → list_any is_lf xs ≡ false → position_or_len is_lf (xs ++ 10 ∷ ys) ≡ length xs
position_all [] ys h = refl
position_all (x ∷ xs) ys h = at (is_lf x) refl h (position_all xs ys)
  where
    at : (t : Bool) → is_lf x ≡ t → (t || list_any is_lf xs) ≡ false → (list_any is_lf xs ≡ false → position_or_len is_lf (xs ++ 10 ∷ ys) ≡ length xs) → cond (not (is_lf x)) (1 + position_or_len is_lf (xs ++ 10 ∷ ys)) 0 ≡ suc (length xs)
    at true e h more = absurd cc
    at false e h more = rw (e, more h) (omega arith)

-- a line without LF, with its LF, is the first line, where it isn't too long
pub line_has : (line rest : List ℕ) → list_any is_lf line ≡ false → length line ≤ 300000 → first (line ++ 10 ∷ rest) ≡ Has line rest
unfolding first
line_has line rest plain short =
    let n = length line in
    let same : position_or_len is_lf (line ++ 10 ∷ rest) ≡ n = position_all line rest plain in
    let long = length-append line (10 ∷ rest) in
    let small : nat_lt 300000 n ≡ false = le-ltb _ _ short in
    let other : (n == length (line ++ 10 ∷ rest)) ≡ false = grind (arith, nat_tests) in
    ap (λ k. first_at k (line ++ 10 ∷ rest)) same
    ∙ rw (small, other) (ap (λ l. Has l (drop (n + 1) (line ++ 10 ∷ rest))) (take_at line (10 ∷ rest) n refl) ∙ ap (Has line) (sym (drop-drop 1 n (line ++ 10 ∷ rest)) ∙ ap (drop 1) (drop_at line (10 ∷ rest) n refl)))
