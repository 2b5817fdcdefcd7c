-- Attempts that are found, and taken out.
use Rattle.std.proofs.Common.{◌≡◌, ℕ, ◌<◌, ◌≤◌, ◌==◌, Bool, true, false, not, cond, List, [], ◌∷◌, length, Some, None, refl, sym, ap, ◌∙◌, arith}
use Rattle.std.specs.List.{filter, find, list_any}
use Rattle.std.proofs.lemmas.Bool.Decides.{nat_tests}
use Rattle.ph_items.specs.declared.orders.Order.{Order}
use Rattle.ph_attempts.specs.declared.flights.Attempt.{Attempt}
use Rattle.ph_attempts.specs.declared.flights.Attempt.TheVariants.{Live, Parked}
use Rattle.ph_attempts.specs.Attempts.{has_parked, is_parked, is_parked_under, order_of, reference_of}

pub length-filter : (test : Attempt → Bool) (attempts : List Attempt) → length (filter test attempts) ≤ length attempts
length-filter test [] = omega arith
length-filter test (first ∷ attempts) = at (test first) (length-filter test attempts)
  where
    at : (passes : Bool) → length (filter test attempts) ≤ length attempts
        → length (cond passes (first ∷ filter test attempts) (filter test attempts)) ≤ length (first ∷ attempts)
    at true less = omega (arith, less)
    at false less = omega (arith, less)

-- where one passes, those that don't are fewer
pub length-filter_any : (test : Attempt → Bool) (attempts : List Attempt) → list_any test attempts ≡ true
    → length (filter (λ attempt. not (test attempt)) attempts) < length attempts
length-filter_any test [] any = absurd (cc)
length-filter_any test (first ∷ attempts) any =
    at (test first) refl (length-filter (λ attempt. not (test attempt)) attempts) (length-filter_any test attempts)
  where
    at : (passes : Bool) → test first ≡ passes → length (filter (λ attempt. not (test attempt)) attempts) ≤ length attempts
        → (list_any test attempts ≡ true → length (filter (λ attempt. not (test attempt)) attempts) < length attempts)
        → length (filter (λ attempt. not (test attempt)) (first ∷ attempts)) < length (first ∷ attempts)
    at true e less more = rw e (omega (arith, less))
    at false e less more = let fewer = more (rw e at any) in rw e (omega (arith, fewer))

-- one that passes is found
pub found_any : (reference : ℕ) (attempts : List Attempt) → has_parked reference attempts ≡ true → find (is_parked_under reference) attempts ≡ None → ⊥
found_any reference [] any none = cc
found_any reference (first ∷ attempts) any none = at (is_parked_under reference first) refl (found_any reference attempts)
  where
    at : (passes : Bool) → is_parked_under reference first ≡ passes
        → (has_parked reference attempts ≡ true → find (is_parked_under reference) attempts ≡ None → ⊥) → ⊥
    at true e more = let no_place : Some first ≡ None = rw e at none in cc
    at false e more = more (rw e at any) (rw e at none)

-- what is found passes
pub found_passes : (reference : ℕ) (attempts : List Attempt) (attempt : Attempt) → find (is_parked_under reference) attempts ≡ Some attempt
    → is_parked_under reference attempt ≡ true
found_passes reference [] attempt h = absurd (cc)
found_passes reference (first ∷ attempts) attempt h = at (is_parked_under reference first) refl (found_passes reference attempts attempt)
  where
    at : (passes : Bool) → is_parked_under reference first ≡ passes
        → (find (is_parked_under reference) attempts ≡ Some attempt → is_parked_under reference attempt ≡ true)
        → is_parked_under reference attempt ≡ true
    at true e more = let same : Some first ≡ Some attempt = rw e at h in let is : first ≡ attempt = cc in ap (is_parked_under reference) (sym is) ∙ e
    at false e more = more (rw e at h)

-- the first that is parked is found under its reference
pub first_has : (attempts : List Attempt) (attempt : Attempt) → find is_parked attempts ≡ Some attempt → has_parked (reference_of attempt) attempts ≡ true
first_has [] attempt h = absurd (cc)
first_has (Live flight ∷ attempts) attempt h = first_has attempts attempt h
first_has (Parked order ∷ attempts) attempt h =
    let is : Parked order ≡ attempt = cc in
    let same : (order.reference == order.reference) ≡ true = grind (arith, nat_tests) in
    rw (sym is, same) refl

-- a parked attempt that is found has the reference
pub parked_has : (reference : ℕ) (attempts : List Attempt) (order : Order) → find (is_parked_under reference) attempts ≡ Some (Parked order)
    → order.reference ≡ reference
parked_has reference attempts order h = let has = found_passes reference attempts (Parked order) h in grind (arith, nat_tests)

-- the parked attempt of a reference that is found is its order's
pub parked_is : (reference : ℕ) (attempt : Attempt) → is_parked_under reference attempt ≡ true → attempt ≡ Parked (order_of attempt)
parked_is reference (Live flight) is = absurd (cc)
parked_is reference (Parked order) is = refl
