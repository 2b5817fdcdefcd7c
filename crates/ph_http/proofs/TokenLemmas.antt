-- The tokens between commas, one after the other.
use Rattle.std.proofs.Common.{◌≡◌, ℕ, suc, ◌+◌, ◌<◌, ◌≤◌, ◌==◌, ◌||◌, Bool, true, false, cond, nat_lt, List, [], ◌∷◌, length, take, drop, get_or, Some, None, refl, ap, ◌∙◌, arith}
use Rattle.std.specs.List.{list_any, position, position_or_len, slice_split, onto_first}
use Rattle.std.proofs.lemmas.List.Splits.{slice_split_first, slice_split-cons_no}
use Rattle.std.proofs.lemmas.List.Sums.{fails_before_first}
use Rattle.std.proofs.lemmas.Bool.Decides.{nat_tests}
use Rattle.ph_http.specs.Requests.{is_close, lists_close}

abbrev is_comma : ℕ → Bool
is_comma b = b == 44

-- the first token, and the others
first_token : (text : List ℕ) (i : ℕ) → Some i ≡ position is_comma text → slice_split is_comma text ≡ take i text ∷ slice_split is_comma (drop (i + 1) text)
first_token text i h = at (nat_lt (position_or_len is_comma text) (length text)) refl h
  where
    at : (t : Bool) → nat_lt (position_or_len is_comma text) (length text) ≡ t → Some i ≡ cond t (Some (position_or_len is_comma text)) None
        → slice_split is_comma text ≡ take i text ∷ slice_split is_comma (drop (i + 1) text)
    at true e g =
        let l : position_or_len is_comma text < length text = grind (arith, nat_tests) in
        let s : position_or_len is_comma text ≡ i = cc in
        slice_split_first is_comma text 0 l ∙ ap (λ n. take n text ∷ slice_split is_comma (drop (n + 1) text)) s
    at false e g = absurd cc

no_comma : (text : List ℕ) → ((k : ℕ) → k < length text → is_comma (get_or text k 0) ≡ false) → slice_split is_comma text ≡ text ∷ []
no_comma [] h = refl
no_comma (x ∷ text) h = slice_split-cons_no is_comma x text (h 0 (omega arith)) ∙ ap (onto_first x) (no_comma text (λ k l. h (suc k) (omega arith)))

one_token : (text : List ℕ) → None ≡ position is_comma text → slice_split is_comma text ≡ text ∷ []
one_token text h = at (nat_lt (position_or_len is_comma text) (length text)) refl h
  where
    at : (t : Bool) → nat_lt (position_or_len is_comma text) (length text) ≡ t → None ≡ cond t (Some (position_or_len is_comma text)) None → slice_split is_comma text ≡ text ∷ []
    at true e g = absurd cc
    at false e g =
        let l : length text ≤ position_or_len is_comma text = grind (arith, nat_tests) in
        no_comma text (λ k m. fails_before_first is_comma text k 0 (omega arith))

either : (x : Bool) → (x || false) ≡ x
either true = refl
either false = refl

-- the first token is it
pub close_found : (text : List ℕ) (i : ℕ) → Some i ≡ position (λ b. b == 44) text → is_close (take i text) ≡ true → lists_close text ≡ true
unfolding lists_close
close_found text i h e = ap (list_any is_close) (first_token text i h) ∙ ap (λ t. t || list_any is_close (slice_split is_comma (drop (i + 1) text))) e

-- the first token isn't it
pub close_later : (text : List ℕ) (i : ℕ) → Some i ≡ position (λ b. b == 44) text → is_close (take i text) ≡ false → lists_close text ≡ lists_close (drop (i + 1) text)
unfolding lists_close
close_later text i h e = ap (list_any is_close) (first_token text i h) ∙ ap (λ t. t || list_any is_close (slice_split is_comma (drop (i + 1) text))) e

-- there is one token
pub close_alone : (text : List ℕ) → None ≡ position (λ b. b == 44) text → lists_close text ≡ is_close text
unfolding lists_close
close_alone text h = ap (list_any is_close) (one_token text h) ∙ either (is_close text)
