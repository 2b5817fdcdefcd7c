-- Items by their name: one item, the first of a header, and any.
use Rattle.std.proofs.Common.{◌≡◌, ℕ, ◌+◌, Bool, true, false, ◌||◌, cond, List, [], ◌∷◌, length, take, drop, nat_lt, Option, Some, None, refl, sym, ap}
use Rattle.std.specs.Prelude.{is_some, position}
use Rattle.std.specs.List.{list_any, filter_map, find, position_or_len}
use Rattle.std.specs.Option.{option_map_or, option_and_then}
use Rattle.std.specs.Str.{bytes_eq}
use Rattle.ph_sign.specs.Verdicts.{first_of, is_equals, value_in}

place_is : (b : Bool) (n at : ℕ) → cond b (Some n) None ≡ Some at → n ≡ at
place_is true n at h = cc
place_is false n at h = cc

-- no `=`
pub value_none : (name item : List ℕ) → None ≡ position is_equals item → None ≡ value_in name item
value_none name item h = rw (← h) refl

-- the place of the first `=`, and the name before it
pub value_found : (name item : List ℕ) (at : ℕ) (same : Bool) → Some at ≡ position is_equals item → same ≡ bytes_eq (take at item) name
    → cond same (Some (drop (at + 1) item)) None ≡ value_in name item
value_found name item at same h e =
    let place = place_is (nat_lt (position_or_len is_equals item) (length item)) (position_or_len is_equals item) at (sym h) in
    rw (← h, place, e) refl

-- the first value is that of the first item that has one
pub first_of-filter_map : (f : List ℕ → Option (List ℕ)) (items : List (List ℕ))
    → option_and_then f (find (λ item. is_some (f item)) items) ≡ first_of (filter_map f items)
first_of-filter_map f [] = refl
first_of-filter_map f (item ∷ items) = at (f item) refl (first_of-filter_map f items)
  where
    at : (o : Option (List ℕ)) → f item ≡ o → option_and_then f (find (λ item. is_some (f item)) items) ≡ first_of (filter_map f items)
        → option_and_then f (find (λ item. is_some (f item)) (item ∷ items)) ≡ first_of (filter_map f (item ∷ items))
    at None e more = rw e more
    at (Some x) e more = rw e e

-- a value passes where an item's value passes
pub list_any-filter_map : (p : List ℕ → Bool) (f : List ℕ → Option (List ℕ)) (items : List (List ℕ))
    → list_any (λ item. option_map_or p (f item) false) items ≡ list_any p (filter_map f items)
list_any-filter_map p f [] = refl
list_any-filter_map p f (item ∷ items) = at (f item) refl (list_any-filter_map p f items)
  where
    at : (o : Option (List ℕ)) → f item ≡ o → list_any (λ item. option_map_or p (f item) false) items ≡ list_any p (filter_map f items)
        → list_any (λ item. option_map_or p (f item) false) (item ∷ items) ≡ list_any p (filter_map f (item ∷ items))
    at None e more = rw e more
    at (Some x) e more = rw e (ap (λ rest. p x || rest) more)
