-- A JSON value's text, level by level, and that no value made of a document has a float.
use Rattle.std.proofs.Common.{◌≡◌, ℕ, List, [], ◌∷◌, ◌++◌, map, Bool, true, false, ◌||◌, Ordering, Less, Equal, Greater, nat_cmp, Vec, BTreeMap, String, Global, codes, refl, sym, ap, ◌∙◌, append_assoc, rules}
use Rattle.std.proofs.lemmas.Grind.{fold-append}
use Rattle.std.specs.BTreeMap.{insert_entry}
use Rattle.std.specs.Cmp.Lexicographic.{slice_cmp}
use Rattle.std.specs.List.{join_with_byte}
use Rattle.std.specs.Ordering.{match_ordering}
use Rattle.std.specs.Str.Lossy.{utf8_lossy}
use Rattle.json.specs.Print.{quoted}
use Rattle.serde_json.specs.Data.{Data, Members, no_members, member, put}
use Rattle.serde_json.proofs.Views.{view-Array, view-Object}
use Rattle.serde_json.specs.View.{view, items_of, members_view}
use Rattle.serde_json.specs.declared.value.Value.{Value, Array as ArrayValue, Object as ObjectValue}
use Rattle.serde_json.specs.Written.{compact_text, items_text, members_text, has_float, items_have_float, members_have_float}
use Rattle.ph_json.specs.Text.{by_key, member_text}
use Rattle.ph_json.specs.Written.{written_members}

items_text-cons : (d : Data) (ds : List Data) → compact_text d ++ items_text true (items_of ds) ≡ join_with_byte 44 (map compact_text (d ∷ ds)) ++ 93 ∷ []
items_text-cons d [] = refl
items_text-cons d (e ∷ ds) =
    ap (λ rest. compact_text d ++ 44 ∷ rest) (items_text-cons e ds)
    ∙ sym (append_assoc (compact_text d) (44 ∷ join_with_byte 44 (map compact_text (e ∷ ds))) (93 ∷ []))

items_text-first : (ds : List Data) → items_text false (items_of ds) ≡ join_with_byte 44 (map compact_text ds) ++ 93 ∷ []
items_text-first [] = refl
items_text-first (d ∷ ds) = items_text-cons d ds

member_text-append : (key text rest : List ℕ) → quoted key ++ 58 ∷ (text ++ rest) ≡ member_text (key, text) ++ rest
member_text-append key text rest =
    sym (append_assoc (quoted key) (58 ∷ []) (text ++ rest)) ∙ sym (append_assoc (quoted key ++ 58 ∷ []) text rest)

members_text-cons : (key : List ℕ) (d : Data) (ms : Members)
    → quoted key ++ 58 ∷ (compact_text d ++ members_text true ms) ≡ join_with_byte 44 (map member_text (written_members (member key d ms))) ++ 125 ∷ []
members_text-cons key d no_members = member_text-append key (compact_text d) (125 ∷ [])
members_text-cons key d (member other e ms) =
    member_text-append key (compact_text d) (members_text true (member other e ms))
    ∙ ap (λ rest. member_text (key, compact_text d) ++ 44 ∷ rest) (members_text-cons other e ms)
    ∙ sym (append_assoc (member_text (key, compact_text d)) (44 ∷ join_with_byte 44 (map member_text (written_members (member other e ms)))) (125 ∷ []))

members_text-first : (ms : Members) → members_text false ms ≡ join_with_byte 44 (map member_text (written_members ms)) ++ 125 ∷ []
members_text-first no_members = refl
members_text-first (member key d ms) = members_text-cons key d ms

written_members-match_ordering : (o : Ordering) (a b c : Members)
    → written_members (match_ordering o a b c) ≡ match_ordering o (written_members a) (written_members b) (written_members c)
written_members-match_ordering Less a b c = refl
written_members-match_ordering Equal a b c = refl
written_members-match_ordering Greater a b c = refl

written_members-put : (key : List ℕ) (d : Data) (ms : Members)
    → written_members (put key d ms) ≡ insert_entry (slice_cmp nat_cmp) (written_members ms) key (compact_text d)
written_members-put key d no_members = refl
written_members-put key d (member other e ms) =
    written_members-match_ordering (slice_cmp nat_cmp key other) _ _ _ ∙ rw (written_members-put key d ms)

by_key-more : (members : List (List ℕ × List ℕ)) (m : List ℕ × List ℕ)
    → by_key (members ++ m ∷ []) ≡ insert_entry (slice_cmp nat_cmp) (by_key members) (utf8_lossy m.0) m.1
by_key-more members m = fold-append (λ sorted n. insert_entry (slice_cmp nat_cmp) sorted (utf8_lossy n.0) n.1) [] members (m ∷ [])

-- one member more, of a value and of a document
pub written_members-more : (members : List (List ℕ × List ℕ)) (key text : List ℕ) (d : Data) (ms : Members)
    → compact_text d ≡ text → written_members ms ≡ by_key members
    → written_members (put (utf8_lossy key) d ms) ≡ by_key (members ++ (key, text) ∷ [])
written_members-more members key text d ms value_said members_said =
    written_members-put (utf8_lossy key) d ms ∙ rw (value_said, members_said) (sym (by_key-more members (key, text)))

-- the text of a list whose items have these texts, and of an object with these members in order
abbrev pub list_text : List (List ℕ) → List ℕ
list_text texts = codes "[" ++ join_with_byte 44 texts ++ codes "]"

abbrev pub sorted_text : List (List ℕ × List ℕ) → List ℕ
sorted_text members = codes "{" ++ join_with_byte 44 (map member_text members) ++ codes "}"

compact_texts : (vs : List Value) → map compact_text (map view vs) ≡ map (λ value. compact_text (view value)) vs
compact_texts [] = refl
compact_texts (v ∷ vs) = ap (λ texts. compact_text (view v) ∷ texts) (compact_texts vs)

pub array_text : (values : Vec Value Global) → compact_text (view (ArrayValue values)) ≡ list_text (map (λ value. compact_text (view value)) values.items)
array_text values =
    ap compact_text (view-Array values) ∙ ap (λ text. 91 ∷ text) (items_text-first (map view values.items)) ∙ ap list_text (compact_texts values.items)

pub map_text : (values : BTreeMap (String Global) Value) → compact_text (view (ObjectValue values)) ≡ sorted_text (written_members (members_view values.entries))
map_text values = ap compact_text (view-Object values) ∙ ap (λ text. 123 ∷ text) (members_text-first (members_view values.entries))

or_false : (a b : Bool) → a ≡ false → b ≡ false → (a || b) ≡ false
or_false a b h k = rw (h, k) refl

put_choice : (o : Ordering) (a b c : Members) → members_have_float a ≡ false → members_have_float b ≡ false
    → members_have_float c ≡ false → members_have_float (match_ordering o a b c) ≡ false
put_choice Less a b c x y z = x
put_choice Equal a b c x y z = y
put_choice Greater a b c x y z = z

left_false : (a b : Bool) → (a || b) ≡ false → a ≡ false
left_false true b h = h
left_false false b h = refl

right_false : (a b : Bool) → (a || b) ≡ false → b ≡ false
right_false true b h = search rules
right_false false b h = h

pub members_have_float-put : (key : List ℕ) (d : Data) (ms : Members) → has_float d ≡ false → members_have_float ms ≡ false
    → members_have_float (put key d ms) ≡ false
members_have_float-put key d no_members h g = or_false _ _ h refl
members_have_float-put key d (member other e ms) h g =
    let first = left_false (has_float e) (members_have_float ms) g in
    let others = right_false (has_float e) (members_have_float ms) g in
    put_choice (slice_cmp nat_cmp key other) (member key d (member other e ms)) (member other d ms) (member other e (put key d ms))
    (or_false _ _ h g) (or_false _ _ h others) (or_false _ _ first (members_have_float-put key d ms h others))

pub items_have_float-more : (ds : List Data) (d : Data) → items_have_float (items_of ds) ≡ false → has_float d ≡ false
    → items_have_float (items_of (ds ++ d ∷ [])) ≡ false
items_have_float-more [] d h g = or_false _ _ g refl
items_have_float-more (e ∷ ds) d h g =
    let first = left_false (has_float e) (items_have_float (items_of ds)) h in
    let others = right_false (has_float e) (items_have_float (items_of ds)) h in
    or_false _ _ first (items_have_float-more ds d others g)
