-- Writes one behind the other.
use Rattle.std.proofs.Common.{◌≡◌, ℕ, ◌+◌, ◌<◌, length, get_or, Result, Ok, Err, List, [], ◌∷◌, ◌++◌, take, drop, map, refl, sym, ap, subst, ◌∙◌, append_assoc}
use Rattle.std.specs.List.{flat_map}
use Rattle.std.specs.Prelude.{OnOk, OnErr}
use Rattle.std.proofs.lemmas.List.{append-nil, take-append-drop, at_drop_more}
use Rattle.std.proofs.lemmas.List.Concat.{flat_map-cons, flat_map-append}
use Rattle.std.proofs.Math.Seq.{take-add}
use Rattle.hex.specs.Hex.{encode_lower, encode_with, lower_digits}
use Rattle.ph_io.specs.Told.{SinkState}
use Rattle.ph_io.specs.Writes.{Takes, TakesFront}
use Rattle.ph_io.proofs.DeviceLemmas.{takes_nothing, takes_twice, takes_then_front, front_of_more}
use Rattle.ph_lines.specs.Fields.{joined}
use Rattle.ph_lines.specs.declared.fields.Field.{Field}
use Rattle.ph_lines.specs.Fields.{field_text, spaced, line_text}

pub hex_append : (xs ys : List ℕ) → encode_lower (xs ++ ys) ≡ encode_lower xs ++ encode_lower ys
unfolding encode_with
hex_append [] ys = refl
hex_append (x ∷ xs) ys = rw (hex_append xs ys) refl

-- all of some bytes and then all of others
pub both : {old mid new : SinkState} {xs ys whole : List ℕ} → Takes old mid xs → Takes mid new ys → xs ++ ys ≡ whole → Takes old new whole
both {old} {mid} {new} first second is = subst (Takes old new) is (takes_twice first second)

-- all of some bytes and then a front of others, with more behind them
pub front_within : {old mid new : SinkState} {xs ys whole : List ℕ} (zs : List ℕ) → Takes old mid xs → TakesFront mid new ys → (xs ++ ys) ++ zs ≡ whole → TakesFront old new whole
front_within {old} {mid} {new} {xs} {ys} zs first second is =
    subst (TakesFront old new) is (front_of_more zs (takes_then_front first second))

-- a front of the first of some bytes
pub front_first : {old new : SinkState} {xs whole : List ℕ} (zs : List ℕ) → TakesFront old new xs → xs ++ zs ≡ whole → TakesFront old new whole
front_first {old} {new} zs front is = subst (TakesFront old new) is (front_of_more zs front)

-- ---- one line

joined_is : (word : List ℕ) (texts : List (List ℕ)) → joined (word ∷ texts) ≡ word ++ flat_map (λ text. 32 ∷ text) texts
joined_is word [] = sym (append-nil word)
joined_is word (text ∷ texts) = ap (λ more. word ++ 32 ∷ more) (joined_is text texts) ∙ ap (λ more. word ++ more) (sym (flat_map-cons (λ t. 32 ∷ t) text texts))

texts_are : (fields : List Field) → flat_map (λ text. 32 ∷ text) (map field_text fields) ≡ spaced fields
texts_are [] = refl
texts_are (field ∷ fields) =
    flat_map-cons (λ t. 32 ∷ t) (field_text field) (map field_text fields) ∙ ap (λ more. (32 ∷ field_text field) ++ more) (texts_are fields)
    ∙ sym (flat_map-cons (λ f. 32 ∷ field_text f) field fields)

pub line_is : (word : List ℕ) (fields : List Field) → word ++ spaced fields ++ 10 ∷ [] ≡ line_text (word ∷ map field_text fields)
unfolding line_text
line_is word fields =
    ap (λ text. text ++ 10 ∷ []) (ap (λ more. word ++ more) (sym (texts_are fields)) ∙ sym (joined_is word (map field_text fields)))

-- what holds holds at an error, too
pub at_err : {A E : Type 0} {P : Type 0} (r : Result A E) → P → OnErr r P
at_err (Ok x) p = tt
at_err (Err e) p = p

pub err_map : {A E : Type 0} {P Q : Type 0} (r : Result A E) → OnErr r P → (P → Q) → OnErr r Q
err_map (Ok x) p f = tt
err_map (Err e) p f = f p

pub ok_map : {A E : Type 0} {P Q : Type 0} (r : Result A E) → OnOk r P → (P → Q) → OnOk r Q
ok_map (Ok x) p f = f p
ok_map (Err e) p f = tt

-- ---- digits, a piece at a time

pub hex_on : {old mid new : SinkState} (bytes : List ℕ) (at n k : ℕ) → k ≡ n → Takes old mid (encode_lower (take at bytes)) → Takes mid new (encode_lower (take k (drop at bytes))) → Takes old new (encode_lower (take (at + n) bytes))
hex_on bytes at n k same first second =
    both first second
    (sym (hex_append (take at bytes) (take k (drop at bytes))) ∙ ap (λ m. encode_lower (take at bytes ++ take m (drop at bytes))) same ∙ ap encode_lower (sym (take-add at n bytes)))

pub hex_front : {old mid new : SinkState} (bytes : List ℕ) (at k : ℕ) → Takes old mid (encode_lower (take at bytes)) → TakesFront mid new (encode_lower (take k (drop at bytes))) → TakesFront old new (encode_lower bytes)
hex_front bytes at k first second =
    front_within (encode_lower (drop k (drop at bytes))) first second
    (append_assoc (encode_lower (take at bytes)) (encode_lower (take k (drop at bytes))) (encode_lower (drop k (drop at bytes)))
    ∙ ap (λ ys. encode_lower (take at bytes) ++ ys) (sym (hex_append (take k (drop at bytes)) (drop k (drop at bytes))) ∙ ap encode_lower (take-append-drop k (drop at bytes)))
    ∙ sym (hex_append (take at bytes) (drop at bytes)) ∙ ap encode_lower (take-append-drop at bytes))

-- ---- items, one by one

pub item_front : {X : Type 0} {old mid new : SinkState} (f : X → List ℕ) (xs : List X) (i : ℕ) (d : X) → i < length xs → Takes old mid (flat_map f (take i xs)) → TakesFront mid new (f (get_or xs i d)) → TakesFront old new (flat_map f xs)
item_front f xs i d inside first second =
    front_within (flat_map f (drop (i + 1) xs)) first second
    (append_assoc (flat_map f (take i xs)) (f (get_or xs i d)) (flat_map f (drop (i + 1) xs))
    ∙ ap (λ ys. flat_map f (take i xs) ++ ys) (sym (at_drop_more (flat_map f) xs i d inside ∙ flat_map-cons f (get_or xs i d) (drop (i + 1) xs)))
    ∙ sym (flat_map-append f (take i xs) (drop i xs)) ∙ ap (flat_map f) (take-append-drop i xs))

pub digits_of_nothing : {state : SinkState} → Takes state state (encode_lower [])
unfolding encode_with
digits_of_nothing {state} = takes_nothing state

-- the same, where the item is known by another name
pub known_front : {X : Type 0} {old mid new : SinkState} (f : X → List ℕ) (xs : List X) (i : ℕ) (x : X) → x ≡ get_or xs i x → i < length xs → Takes old mid (flat_map f (take i xs)) → TakesFront mid new (f x) → TakesFront old new (flat_map f xs)
known_front {mid = mid} {new} f xs i x is inside first second = item_front f xs i x inside first (subst (λ y. TakesFront mid new (f y)) is second)
