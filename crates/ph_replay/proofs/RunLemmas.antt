-- A run by its place.
use Rattle.std.proofs.Common.{◌≡◌, ℕ, suc, ◌+◌, ◌<◌, ◌≤◌, Bool, true, false, not, cond, nat_lt, List, [], ◌∷◌, ◌++◌, length, get_or, take, drop, Some, None, refl, ap, subst, arith}
use Rattle.std.specs.Prelude.{position, find}
use Rattle.std.specs.List.{position_or_len}
use Rattle.std.proofs.lemmas.Bool.{ltb-true, ltb-false}
use Rattle.ph_attempts.specs.declared.flights.Flight.{Flight}
use Rattle.ph_replay.specs.Tickets.{without_first}

place_is : (b : Bool) (n at : ℕ) → Some at ≡ cond b (Some n) None → (b ≡ true) × (n ≡ at)
place_is true n at h = (refl, cc)
place_is false n at h = absurd cc

none_is : (b : Bool) (n : ℕ) → None ≡ cond b (Some n) None → b ≡ false
none_is true n h = absurd cc
none_is false n h = refl

-- what is at the place of the first that passes, and what is left without it
pub record At (passes : Flight → Bool) (flights : List Flight) (d : Flight) (n : ℕ) : Type 0 where
  pub found : Some (get_or flights n d) ≡ find passes flights
  pub left : take n flights ++ drop (suc n) flights ≡ without_first passes flights

at_first : (passes : Flight → Bool) (flights : List Flight) (d : Flight) → position_or_len passes flights < length flights → At passes flights d (position_or_len passes flights)
at_first passes [] d h = absurd (omega arith)
at_first passes (flight ∷ flights) d h = at (passes flight) refl h (at_first passes flights d)
  where
    at : (t : Bool) → passes flight ≡ t → cond (not t) (1 + position_or_len passes flights) 0 < suc (length flights) → (position_or_len passes flights < length flights → At passes flights d (position_or_len passes flights)) → At passes (flight ∷ flights) d (cond (not (passes flight)) (1 + position_or_len passes flights) 0)
    at true e less later = rw e (record { found = rw e refl; left = rw e refl })
    at false e less later =
        let more = later (omega arith) in
        let one : suc (position_or_len passes flights) ≡ 1 + position_or_len passes flights = omega arith in
        rw e (subst (At passes (flight ∷ flights) d) one (record { found = rw e more.found; left = rw e (ap (λ xs. flight ∷ xs) more.left) }))

none_first : (passes : Flight → Bool) (flights : List Flight) → length flights ≤ position_or_len passes flights → (None ≡ find passes flights) × (flights ≡ without_first passes flights)
none_first passes [] h = (refl, refl)
none_first passes (flight ∷ flights) h = at (passes flight) refl h (none_first passes flights)
  where
    at : (t : Bool) → passes flight ≡ t → suc (length flights) ≤ cond (not t) (1 + position_or_len passes flights) 0 → (length flights ≤ position_or_len passes flights → (None ≡ find passes flights) × (flights ≡ without_first passes flights)) → (None ≡ find passes (flight ∷ flights)) × (flight ∷ flights ≡ without_first passes (flight ∷ flights))
    at true e less later = absurd (omega arith)
    at false e less later = let more = later (omega arith) in (rw e more.0, rw e (ap (λ xs. flight ∷ xs) more.1))

placed : (passes : Flight → Bool) (flights : List Flight) (d : Flight) (n : ℕ) → Some n ≡ position passes flights → At passes flights d n
placed passes flights d n h =
    let p = place_is (nat_lt (position_or_len passes flights) (length flights)) (position_or_len passes flights) n h in
    rw (← p.1) (at_first passes flights d (ltb-true _ _ p.0))

pub found_at : (passes : Flight → Bool) (flights : List Flight) (d : Flight) (n : ℕ) → Some n ≡ position passes flights → Some (get_or flights n d) ≡ find passes flights
found_at passes flights d n h = (placed passes flights d n h).found

pub left_at : (passes : Flight → Bool) (flights : List Flight) (n : ℕ) (d : Flight) → Some n ≡ position passes flights → take n flights ++ drop (suc n) flights ≡ without_first passes flights
left_at passes flights n d h = (placed passes flights d n h).left

pub found_none : (passes : Flight → Bool) (flights : List Flight) → None ≡ position passes flights → None ≡ find passes flights
found_none passes flights h = (none_first passes flights (ltb-false _ _ (none_is (nat_lt (position_or_len passes flights) (length flights)) (position_or_len passes flights) h))).0

pub left_none : (passes : Flight → Bool) (flights : List Flight) → None ≡ position passes flights → flights ≡ without_first passes flights
left_none passes flights h = (none_first passes flights (ltb-false _ _ (none_is (nat_lt (position_or_len passes flights) (length flights)) (position_or_len passes flights) h))).1
