use Rattle.std.proofs.Common.{◌≡◌, ℕ, ◌≤◌, ◌&&◌, ◌||◌, not, nat_le, Bool, true, false, cond, List, [], length, take, drop, get_or, Option, Some, None, IsTrue, IfSome, refl, sym, ap, ◌∙◌, subst, bytes_eq, inl, inr, codes}
use Rattle.std.specs.Bool.{Decides}
use Rattle.std.specs.List.{list_all, AllPass}
use Rattle.std.proofs.lemmas.Bool.{leb-true, le-leb}
use Rattle.std.proofs.lemmas.Bool.Decides.{Decides-and, Decides-or, Decides-not, Decides-below_and, Decides-ltb, Decides-eqb}
use Rattle.std.proofs.lemmas.List.Sums.{AllPass-from_list_all, list_all-from_AllPass}
use Rattle.std.proofs.lemmas.Slice.Eq.{bytes_eq-Decides}
use Rattle.std.proofs.lemmas.Str.{IsUtf8-from_is_utf8, is_utf8-from_IsUtf8}
use Rattle.http_uri.specs.ByteClasses.{is_scheme_byte, is_path_byte, is_query_byte, is_delimiter, colon, left_bracket, right_bracket, split_once_back, split_once_front, question_mark}
use Rattle.http_uri.specs.Grammar.{MayFollow, IsAuthority, IsPathAndQuery, IsPathInput, IsTail, IsScheme, IsUriText, normal_scheme, scheme_len, authority_len, without_fragment}
use Rattle.http_uri.proofs.UriLemmas.{absolute_from_cuts, cut_name, cut_rest, cut_authority, cut_tail, cut_scheme}
use Rattle.ph_address.specs.Absolute.{may_follow, all_below, is_authority, is_query, is_path_and_query, is_path_input, is_tail, kept_of, name_of, rest_of, authority_of, tail_of, is_absolute}

Decides-leb : (a b : ℕ) → Decides (nat_le a b) (a ≤ b)
Decides-leb a b = (leb-true a b, le-leb a b)

-- a fact where another holds
Decides-if : {P Q : Type 0} → (x y : Bool) → Decides x P → Decides y Q → Decides (not x || y) (P → Q)
Decides-if true y p q = (λ e _. q.0 e, λ f. q.1 (f (p.0 refl)))
Decides-if false y p q = (λ _ h. absurd (let wrong : false ≡ true = p.1 h in cc), λ _. refl)

all_pass : (p : ℕ → Bool) (xs : List ℕ) → Decides (list_all p xs) (AllPass p xs)
all_pass p xs = (AllPass-from_list_all p xs, list_all-from_AllPass p xs)

test_decides : (b : Bool) → Decides b (IsTrue b)
test_decides b = (λ e. e, λ e. e)

follow_decides : (front : List ℕ) (b : ℕ) → Decides (may_follow front b) (MayFollow front b)
follow_decides front b =
    let d = Decides-and _ _ (test_decides _) (Decides-and _ _ (Decides-if _ _ (Decides-eqb b colon) (Decides-ltb _ 8))
    (Decides-and _ _ (Decides-if _ _ (Decides-eqb b left_bracket) (Decides-and _ _ (Decides-eqb _ 0) (Decides-eqb _ 0)))
    (Decides-if _ _ (Decides-eqb b right_bracket) (Decides-and _ _ (Decides-ltb 0 _) (Decides-eqb _ 0))))) in (
      λ e. let p = d.0 e in record { byte = p.0; colons = p.1.0; opening = p.1.1.0; closing = p.1.1.1 },
      λ is. d.1 (is.byte, (is.colons, (is.opening, is.closing))),
    )

authority_decides : (a : List ℕ) → Decides (is_authority a) (IsAuthority a)
authority_decides a =
    let each = Decides-below_and (λ i. may_follow (take i a) (get_or a i 0)) (λ i. MayFollow (take i a) (get_or a i 0))
    (all_below (λ i. may_follow (take i a) (get_or a i 0))) (λ i. follow_decides (take i a) (get_or a i 0)) refl (λ _. refl) (length a) in
    let d = Decides-and _ _ (Decides-ltb 0 (length a)) (Decides-and _ _ each (Decides-and _ _ (Decides-eqb _ _)
    (Decides-and _ _ (Decides-leb _ 1) (Decides-and _ _ (Decides-eqb _ 0) (Decides-not _ (Decides-eqb _ 64)))))) in (
      λ e. let p = d.0 e in record { nonempty = p.0; bytes = p.1.0; closed = p.1.1.0; one_colon = p.1.1.1.0; no_percent = p.1.1.1.1.0; has_host = p.1.1.1.1.1 },
      λ is. d.1 (is.nonempty, (is.bytes, (is.closed, (is.one_colon, (is.no_percent, is.has_host))))),
    )

query_decides : (q : Option (List ℕ)) → Decides (is_query q) (IfSome q (AllPass is_query_byte))
query_decides None = (λ _. tt, λ _. refl)
query_decides (Some q) = all_pass is_query_byte q

path_decides : (t : List ℕ) → Decides (is_path_and_query t) (IsPathAndQuery t)
path_decides t =
    let d = Decides-and _ _ (Decides-or _ _ (bytes_eq-Decides t []) (Decides-or _ _ (bytes_eq-Decides t (codes "*")) (Decides-or _ _ (Decides-eqb (get_or t 0 0) 47) (Decides-eqb (get_or t 0 0) 63))))
    (Decides-and _ _ (all_pass is_path_byte (split_once_front question_mark t)) (Decides-and _ _ (query_decides (split_once_back question_mark t))
    (Decides-and _ _ (IsUtf8-from_is_utf8 t, is_utf8-from_IsUtf8 t) (Decides-leb (length t) 65534)))) in (
      λ e. let p = d.0 e in record { start = p.0; path = p.1.0; query = p.1.1.0; utf8 = p.1.1.1.0; short = p.1.1.1.1 },
      λ is. d.1 (is.start, (is.path, (is.query, (is.utf8, is.short)))),
    )

input_decides : (t : List ℕ) → Decides (is_path_input t) (IsPathInput t)
input_decides t =
    let d = Decides-and _ _ (Decides-or _ _ (bytes_eq-Decides t (codes "*")) (test_decides (is_delimiter (get_or t 0 0))))
    (Decides-and _ _ (Decides-leb (length t) 65534) (path_decides (without_fragment t))) in
    (λ e. let p = d.0 e in record { start = p.0; short = p.1.0; kept = p.1.1 }, λ is. d.1 (is.start, (is.short, is.kept)))

tail_from : (t : List ℕ) (b : Bool) → Decides b (t ≡ []) → (b || (is_delimiter (get_or t 0 0) && is_path_input t)) ≡ true
    → IsTail t (cond b (codes "/") (without_fragment t))
tail_from t true d e = inl (d.0 refl, refl)
tail_from t false d e =
    let p = (Decides-and _ _ (test_decides (is_delimiter (get_or t 0 0))) (input_decides t)).0 e in
    inr (p.0, p.1, refl)

tail_to : (t k : List ℕ) → IsTail t k → (is_tail t ≡ true) × (kept_of t ≡ k)
tail_to t k (inl h) = rw ((bytes_eq-Decides t []).1 h.0) (refl, sym h.1)
tail_to t k (inr h) = delimited (bytes_eq t []) (bytes_eq-Decides t [])
  where
    delimited : (b : Bool) → Decides b (t ≡ []) → ((b || (is_delimiter (get_or t 0 0) && is_path_input t)) ≡ true) × (cond b (codes "/") (without_fragment t) ≡ k)
    delimited true d =
        let mark : IsTrue (is_delimiter 0) = subst (λ s. IsTrue (is_delimiter (get_or s 0 0))) (d.0 refl) h.0 in
        absurd (let wrong : false ≡ true = mark in cc)
    delimited false d = ((Decides-and _ _ (test_decides (is_delimiter (get_or t 0 0))) (input_decides t)).1 (h.0, h.1), sym h.2)

-- the parts that the cuts give, where the test passes
pub is_absolute-form : (text : List ℕ) → is_absolute text ≡ true
    → IsUriText text (Some (normal_scheme (name_of text))) (Some (authority_of text)) (kept_of (tail_of text))
unfolding is_absolute
is_absolute-form text e =
    let d = Decides-and _ _ (Decides-leb (length text) 65534) (Decides-and _ _ (Decides-and _ _ (Decides-ltb 3 (length text)) (bytes_eq-Decides (take 3 (drop (scheme_len text) text)) (codes "://")))
    (Decides-and _ _ (Decides-and _ _ (all_pass is_scheme_byte (name_of text)) (Decides-leb (length (name_of text)) 64))
    (Decides-and _ _ (authority_decides (authority_of text)) (test_decides (is_tail (tail_of text)))))) in
    let p = d.0 e in (
      p.0,
      absolute_from_cuts text _ _ _ (scheme_len text) (authority_len (rest_of text)) p.1.0 refl p.1.1.0 refl refl p.1.1.1.0
          (tail_from (tail_of text) _ (bytes_eq-Decides (tail_of text) []) p.1.1.1.1),
    )

-- any absolute form passes the test, with these parts
pub form-is_absolute : (text s a k : List ℕ) → IsUriText text (Some s) (Some a) k
    → (is_absolute text ≡ true) × (normal_scheme (name_of text) ≡ s) × (authority_of text ≡ a) × (kept_of (tail_of text) ≡ k)
unfolding is_absolute
form-is_absolute text s a k h =
    let form = h.1 in
    let name = cut_name text s a k form in
    let rest = cut_rest text s a k form in
    let authority : authority_of text ≡ a = rw rest (cut_authority text s a k form) in
    let tail : tail_of text ≡ form.tail = rw rest (cut_tail text s a k form) in
    let ends = tail_to form.tail k form.is_tail in
    let d = Decides-and _ _ (Decides-leb (length text) 65534) (Decides-and _ _ (Decides-and _ _ (Decides-ltb 3 (length text)) (bytes_eq-Decides (take 3 (drop (scheme_len text) text)) (codes "://")))
    (Decides-and _ _ (Decides-and _ _ (all_pass is_scheme_byte (name_of text)) (Decides-leb (length (name_of text)) 64))
    (Decides-and _ _ (authority_decides (authority_of text)) (test_decides (is_tail (tail_of text)))))) in (
      d.1 (h.0, (cut_scheme text s a k form, (subst IsScheme (sym name) form.is_scheme, (subst IsAuthority (sym authority) form.is_authority, ap is_tail tail ∙ ends.0)))),
      ap normal_scheme name ∙ sym form.normal,
      authority,
      ap kept_of tail ∙ ends.1,
    )
