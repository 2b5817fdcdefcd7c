use Rattle.std.proofs.Common.{◌≡◌, ℕ, zero, suc, ◌+◌, ◌-◌, ◌<◌, ◌≤◌, ◌==◌, ◌||◌, nat_le, Bool, true, false, cond, List, [], ◌∷◌, ◌++◌, length, Option, Some, None, IfSome, IfNone, option_map, refl, sym, ap, ◌∙◌, subst, arith, append_assoc, append-nil}
use Rattle.std.specs.List.{list_all, All, AllPass, flat_map}
use Rattle.std.proofs.lemmas.List.Elements.{All-head, All-tail}
use Rattle.std.specs.Bool.{Decides}
use Rattle.std.specs.Str.{IsUtf8, is_utf8}
use Rattle.std.proofs.lemmas.Bool.{and_parts, leb-true, le-leb}
use Rattle.std.proofs.lemmas.Bool.Decides.{Decides-and, Decides-by_and, Decides-ltb}
use Rattle.std.proofs.lemmas.List.Sums.{AllPass-from_list_all, list_all-from_AllPass}
use Rattle.std.proofs.lemmas.Slice.Eq.{bytes_eq-Decides}
use Rattle.std.proofs.lemmas.Str.{IsUtf8-from_is_utf8, is_utf8-from_IsUtf8}
use Rattle.httparse.specs.Grammar.{IsToken, LineEnd, crlf, lf, print_end, print_blank, print_field, print_section, print_version, Field, IsField, RequestHead, IsRequestHead, print_request, is_token_byte, is_uri_byte, is_value_byte, is_token}
use Rattle.httparse.specs.Pieces.{Stops, is_newline}
use Rattle.httparse.proofs.PieceLemmas.{Stops_token, Stops_value, print_field-append, space_ends_token, colon_ends_token}
use Rattle.httparse.proofs.GrammarLemmas.{print_request-append}
use Rattle.httparse.specs.Spans.{IsRequestAt}
use Rattle.httparse.specs.declared.spans.HeaderSpan.{HeaderSpan}
use Rattle.httparse.specs.declared.spans.RequestSpans.{RequestSpans}
use Rattle.ph_head.specs.Parts.{parts_of, parts_at, parts_in}
use Rattle.ph_head.specs.Head.{IsOneHead, IsNoHead}
use Rattle.ph_head.specs.Reader.{front_that, end_at, blank_at, field_at, field_named, field_after, fields_at, cut_head, after_blank, after_method, after_target, after_line, after_fields, is_field, is_head, checked, head_of}

-- a front_that is the bytes that pass, up to one that fails
pub front_that-append : (p : ℕ → Bool) (xs ys : List ℕ) → AllPass p xs → Stops p ys → front_that p (xs ++ ys) ≡ (xs, ys)
front_that-append p [] [] pass stop = elim stop [ ]
front_that-append p [] (y ∷ ys) pass stop = rw stop refl
front_that-append p (x ∷ xs) ys pass stop =
    rw (All-head (λ b. p b ≡ true) x xs pass, front_that-append p xs ys (All-tail (λ b. p b ≡ true) x xs pass) stop) refl

pub end_at-append : (e : LineEnd) (rest : List ℕ) → end_at (print_end e ++ rest) ≡ (e, rest)
end_at-append crlf rest = refl
end_at-append lf rest = refl

or_parts : (x y : Bool) → (x || y) ≡ false → (x ≡ false) × (y ≡ false)
or_parts true y h = let wrong : true ≡ false = h in cc
or_parts false y h = (refl, h)

pub blank_at-append : (ends : List LineEnd) (text : List ℕ) → Stops is_newline text
    → blank_at false (print_blank ends ++ text) ≡ (ends, text)
blank_at-append [] [] stop = elim stop [ ]
blank_at-append [] (b ∷ text) stop =
    let tests = or_parts (b == 13) (b == 10) stop in
    rw (tests.1, tests.0) refl
blank_at-append (crlf ∷ ends) text stop = rw (blank_at-append ends text stop) refl
blank_at-append (lf ∷ ends) text stop = rw (blank_at-append ends text stop) refl

pub field_at-append : (f : Field) (rest : List ℕ) → IsField f → field_at (print_field f ++ rest) ≡ (f, rest)
field_at-append f rest is =
    ap field_at (print_field-append f rest)
    ∙ ap field_named (front_that-append is_token_byte f.name (58 ∷ (f.raw ++ (print_end f.end ++ rest))) is.name.1 colon_ends_token)
    ∙ ap (field_after f.name) (front_that-append is_value_byte f.raw (print_end f.end ++ rest) is.raw (Stops_value f.end rest))
    ∙ ap (λ (e : LineEnd × List ℕ). (record { name = f.name; raw = f.raw; end = e.0 }, e.1)) (end_at-append f.end rest)

-- a field, and the fields after it
abbrev pub after_field : ℕ → Field × List ℕ → List Field × List ℕ
after_field n g = (g.0 ∷ (fields_at n g.1).0, (fields_at n g.1).1)

fields_at-field : (n : ℕ) (text : List ℕ) → Stops is_newline text → fields_at (suc n) text ≡ after_field n (field_at text)
fields_at-field n [] stop = elim stop [ ]
fields_at-field n (b ∷ text) stop = rw stop refl

-- the fields, which the fuel covers
pub fields_at-append : (n : ℕ) (fs : List Field) (last : LineEnd) → All IsField fs → length fs < n
    → fields_at n (flat_map print_field fs ++ (print_end last ++ [])) ≡ (fs, print_end last ++ [])
fields_at-append zero fs last all room = absurd (omega arith)
fields_at-append (suc n) [] crlf all room = refl
fields_at-append (suc n) [] lf all room = refl
fields_at-append (suc n) (f ∷ fs) last all room =
    let more = flat_map print_field fs ++ (print_end last ++ []) in
    let is = All-head IsField f fs all in
    let whole : flat_map print_field (f ∷ fs) ++ (print_end last ++ []) ≡ print_field f ++ more = append_assoc (print_field f) (flat_map print_field fs) (print_end last ++ []) in
    ap (fields_at (suc n)) whole
    ∙ fields_at-field n (print_field f ++ more) (subst (Stops is_newline) (sym (print_field-append f more)) (Stops_token f.name (58 ∷ (f.raw ++ (print_end f.end ++ more))) is.name.0 is.name.1))
    ∙ ap (after_field n) (field_at-append f more is)
    ∙ ap (λ (g : List Field × List ℕ). (f ∷ g.0, g.1)) (fields_at-append n fs last (All-tail IsField f fs all) (omega arith))

-- the cut_head of a printed head is the head
pub cut_head-print_request : (h : RequestHead) → IsRequestHead h → length h.fields ≤ 64 → cut_head (print_request h ++ []) ≡ h
cut_head-print_request h is room =
    let section = print_section h.fields h.last ++ [] in
    let after_version = print_end h.line_end ++ section in
    let after_path = 32 ∷ (print_version h.minor ++ after_version) in
    let after_name = 32 ∷ (h.target ++ after_path) in
    let fields = append_assoc (flat_map print_field h.fields) (print_end h.last) [] in
    ap cut_head (print_request-append h [])
    ∙ ap after_blank (blank_at-append h.blank (h.method ++ after_name) (Stops_token h.method after_name is.method.0 is.method.1))
    ∙ ap (after_method h.blank) (front_that-append is_token_byte h.method after_name is.method.1 space_ends_token)
    ∙ ap (after_target h.blank h.method) (front_that-append is_uri_byte h.target after_path is.target.1 refl)
    ∙ ap (λ n. after_line h.blank h.method h.target n (end_at after_version)) (minor-back h.minor)
    ∙ ap (after_line h.blank h.method h.target h.minor) (end_at-append h.line_end section)
    ∙ ap (λ text. after_fields h.blank h.method h.target h.minor h.line_end (fields_at 65 text)) fields
    ∙ ap (after_fields h.blank h.method h.target h.minor h.line_end) (fields_at-append 65 h.fields h.last is.fields (omega arith))
    ∙ ap (λ (e : LineEnd × List ℕ). (record h { last = e.0 })) (end_at-append h.last [])
  where
    minor-back : (n : ℕ) → 48 + n - 48 ≡ n
    minor-back n = omega arith

-- ---- the tests and the facts

all_pass : (p : ℕ → Bool) (xs : List ℕ) → Decides (list_all p xs) (AllPass p xs)
all_pass p xs = (AllPass-from_list_all p xs, list_all-from_AllPass p xs)

token_decides : (bs : List ℕ) → Decides (is_token bs) (IsToken bs)
token_decides bs = Decides-and _ _ (Decides-ltb 0 (length bs)) (all_pass is_token_byte bs)

field_decides : (f : Field) → Decides (is_field f) (IsField f)
field_decides f =
    let d = Decides-and _ _ (token_decides f.name) (all_pass is_value_byte f.raw) in
    (λ e. let p = d.0 e in record { name = p.0; raw = p.1 }, λ is. d.1 (is.name, is.raw))

fields_decide : (fs : List Field) → Decides (list_all is_field fs) (All IsField fs)
fields_decide fs = Decides-by_and is_field IsField (list_all is_field) field_decides refl (λ _ _. refl) fs

utf8_decides : (bs : List ℕ) → Decides (is_utf8 bs) (IsUtf8 bs)
utf8_decides bs = (IsUtf8-from_is_utf8 bs, is_utf8-from_IsUtf8 bs)

Decides-leb : (a b : ℕ) → Decides (nat_le a b) (a ≤ b)
Decides-leb a b = (leb-true a b, le-leb a b)

head_decides : (h : RequestHead) → Decides (is_head h) (IsRequestHead h × (length h.fields ≤ 64))
head_decides h =
    let d = Decides-and _ _ (token_decides h.method) (Decides-and _ _ (Decides-ltb 0 (length h.target))
    (Decides-and _ _ (all_pass is_uri_byte h.target) (Decides-and _ _ (utf8_decides h.target)
    (Decides-and _ _ (Decides-leb h.minor 1) (Decides-and _ _ (fields_decide h.fields) (Decides-leb (length h.fields) 64)))))) in (
      λ e. let p = d.0 e in (
        record { method = p.0; target = (p.1.0, p.1.1.0); target_text = p.1.1.1.0; minor = p.1.1.1.1.0; fields = p.1.1.1.1.1.0 },
        p.1.1.1.1.1.1,
      ),
      λ is. d.1 (is.0.method, (is.0.target.0, (is.0.target.1, (is.0.target_text, (is.0.minor, (is.0.fields, is.1)))))),
    )

some_parts : (t : Bool) (k h : RequestHead) → cond t (Some k) None ≡ Some h → (t ≡ true) × (k ≡ h)
some_parts true k h e = (refl, cc)
some_parts false k h e = absurd (let wrong : None ≡ Some h = e in cc)

-- what the reader gives is the one head
pub head_of-some : (bytes : List ℕ) (h : RequestHead) → head_of bytes ≡ Some h → IsOneHead bytes h
unfolding head_of
head_of-some bytes h e =
    let found = some_parts _ _ _ e in
    let tests = and_parts _ _ found.0 in
    let valid = subst (λ k. IsRequestHead k × (length k.fields ≤ 64)) found.1 ((head_decides (cut_head bytes)).0 tests.0) in
    let same = subst (λ k. print_request k ≡ bytes) found.1 ((bytes_eq-Decides _ _).0 tests.1) in
    record { reads = (valid.0, sym (append-nil (print_request h) ∙ same)); room = valid.1 }

-- and the one head is what it gives
pub head_of-one : (bytes : List ℕ) (h : RequestHead) → IsOneHead bytes h → head_of bytes ≡ Some h
unfolding head_of
head_of-one bytes h is =
    let printed : bytes ≡ print_request h ++ [] = is.reads.1 in
    let same : cut_head bytes ≡ h = ap cut_head printed ∙ cut_head-print_request h is.reads.0 is.room in
    let valid = (head_decides h).1 (is.reads.0, is.room) in
    let equal = (bytes_eq-Decides (print_request h) bytes).1 (sym (printed ∙ append-nil (print_request h))) in
    ap (checked bytes) same ∙ rw (valid, equal) refl

-- where it gives none there is none, and the other way
pub head_of-none : (bytes : List ℕ) → IsNoHead bytes → head_of bytes ≡ None
head_of-none bytes none = none_of (head_of bytes) (λ h e. none h (head_of-some bytes h e))
  where
    none_of : (o : Option RequestHead) → ((h : RequestHead) → o ≡ Some h → ⊥) → o ≡ None
    none_of None f = refl
    none_of (Some h) f = absurd (f h refl)

-- ---- where the parts stand

parts_is : (bytes : List ℕ) (room : List HeaderSpan) (spans : RequestSpans) (h : RequestHead) → IsRequestAt bytes room spans h → parts_at bytes room spans ≡ parts_of h
parts_is bytes room spans h at = λ i. record {
  method = at.method i;
  target = at.path i;
  minor = at.version i;
  headers = at.fields i;
}

-- the parser's two clauses, as one equation
pub parts_read : (bytes : List ℕ) (room : List HeaderSpan) (o : Option RequestSpans)
    → IfSome o (λ spans. (h : RequestHead) × IsOneHead bytes h × IsRequestAt bytes room spans h) → IfNone o (IsNoHead bytes)
    → option_map (parts_at bytes room) o ≡ parts_in bytes
parts_read bytes room (Some spans) some none = ap Some (parts_is bytes room spans some.0 some.2) ∙ sym (ap (option_map parts_of) (head_of-one bytes some.0 some.1))
parts_read bytes room None some none = sym (ap (option_map parts_of) (head_of-none bytes none))
