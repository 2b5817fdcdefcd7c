-- Flights in a list: the first of a number, and the list without it.
use Rattle.std.proofs.Common.{◌≡◌, ℕ, zero, suc, ◌+◌, ◌<◌, ◌≤◌, nat_lt, Bool, true, false, not, cond, List, [], ◌∷◌, ◌++◌, length, get_or, Some, None, refl, sym, ap, ◌∙◌, subst, arith}
use Rattle.std.specs.List.{position, position_or_len, remove, insert}
use Rattle.std.proofs.lemmas.Bool.{eqb-true, ltb-false}
use Rattle.std.proofs.lemmas.List.Quantifiers.{position-Some}
use Rattle.ph_attempts.specs.declared.flights.Flight.{Flight}
use Rattle.ph_book.specs.State.{BookState}
use Rattle.ph_world.specs.Flights.{AllInHand, InHand, flight_in, is_of, without}

-- ---- the first of a number

-- the flight at the first place of a number, and the list without it, in which it can be put back
pub record IsFirst (flights : List Flight) (run at : ℕ) (flight : Flight) : Type 0 where
  pub found : flight_in flights run ≡ Some flight
  pub left : without run flights ≡ remove flights at
  pub back : insert (remove flights at) at flight ≡ flights

first_at : (flights : List Flight) (run at : ℕ) (flight : Flight) → at < length flights → flight ≡ get_or flights at flight
    → is_of run flight ≡ true → ((k : ℕ) → k < at → is_of run (get_or flights k flight) ≡ false) → IsFirst flights run at flight
first_at [] run at flight within is here before = absurd (omega (arith, within))
first_at (other ∷ flights) run zero flight within is here before =
    let its : is_of run other ≡ true = subst (λ (f : Flight). is_of run f ≡ true) is here in
    record {
      found = ap (λ b. cond b (Some other) (flight_in flights run)) its ∙ ap Some (sym is);
      left = ap (λ b. cond b flights (other ∷ without run flights)) its;
      back = ap (λ (f : Flight). f ∷ flights) is;
    }
first_at (other ∷ flights) run (suc at) flight within is here before =
    let rest = first_at flights run at flight (omega (arith, within)) is here (λ k lt. before (suc k) (omega (arith, lt))) in
    let apart : is_of run other ≡ false = before zero (omega arith) in
    record {
      found = ap (λ b. cond b (Some other) (flight_in flights run)) apart ∙ rest.found;
      left = ap (λ b. cond b flights (other ∷ without run flights)) apart ∙ ap (λ (fs : List Flight). other ∷ fs) rest.left;
      back = ap (λ (fs : List Flight). other ∷ fs) rest.back;
    }

-- the flight that stands where the place of a number is
pub placed : (flights : List Flight) (run at : ℕ) (flight : Flight) → position (is_of run) flights ≡ Some at
    → flight ≡ get_or flights at flight → IsFirst flights run at flight
placed flights run at flight is there =
    let some = position-Some (is_of run) flights at flight is in
    first_at flights run at flight some.0 there (subst (λ (f : Flight). is_of run f ≡ true) (sym there) some.1) some.2

-- it is within the list
pub placed_within : (flights : List Flight) (run at : ℕ) (flight : Flight) → position (is_of run) flights ≡ Some at → at < length flights
placed_within flights run at flight is = (position-Some (is_of run) flights at flight is).0

-- where a number has no place, none has it
pub record IsNone (flights : List Flight) (run : ℕ) : Type 0 where
  pub found : flight_in flights run ≡ None
  pub left : without run flights ≡ flights

beyond : (flights : List Flight) (run : ℕ) → length flights ≤ position_or_len (is_of run) flights → IsNone flights run
beyond [] run le = record { found = refl; left = refl }
beyond (flight ∷ flights) run le = at (is_of run flight) refl (beyond flights run)
  where
    at : (b : Bool) → is_of run flight ≡ b → (length flights ≤ position_or_len (is_of run) flights → IsNone flights run) → IsNone (flight ∷ flights) run
    at true e rest =
        let low : suc (length flights) ≤ 0 =
        subst (λ b. suc (length flights) ≤ cond (not b) (1 + position_or_len (is_of run) flights) 0) e le in
        absurd (omega (arith, low))
    at false e rest =
        let low : suc (length flights) ≤ 1 + position_or_len (is_of run) flights =
        subst (λ b. suc (length flights) ≤ cond (not b) (1 + position_or_len (is_of run) flights) 0) e le in
        let none = rest (omega (arith, low)) in
        record {
          found = ap (λ b. cond b (Some flight) (flight_in flights run)) e ∙ none.found;
          left = ap (λ b. cond b flights (flight ∷ without run flights)) e ∙ ap (λ (fs : List Flight). flight ∷ fs) none.left;
        }

no_place : (n m : ℕ) → cond (nat_lt n m) (Some n) None ≡ None → m ≤ n
no_place n m is = at (nat_lt n m) refl
  where
    at : (b : Bool) → nat_lt n m ≡ b → m ≤ n
    at true e =
        let clash : Some n ≡ None = ap (λ b. cond b (Some n) None) (sym e) ∙ is in
        absurd (cc)
    at false e = ltb-false n m e

pub not_placed : (flights : List Flight) (run : ℕ) → position (is_of run) flights ≡ None → IsNone flights run
not_placed flights run is = beyond flights run (no_place (position_or_len (is_of run) flights) (length flights) is)

-- the same of a slice of the flights, as a search of it says
pub placed_in : (flights slice : List Flight) (run at : ℕ) (flight : Flight) → slice ≡ flights → Some at ≡ position (is_of run) slice
    → flight ≡ get_or flights at flight → IsFirst flights run at flight
placed_in flights slice run at flight same is there = placed flights run at flight (ap (position (is_of run)) (sym same) ∙ sym is) there

pub not_placed_in : (flights slice : List Flight) (run : ℕ) → slice ≡ flights → None ≡ position (is_of run) slice → IsNone flights run
not_placed_in flights slice run same is = not_placed flights run (ap (position (is_of run)) (sym same) ∙ sym is)

-- a flight that is found has the number
pub found_run : (flights : List Flight) (run : ℕ) (flight : Flight) → flight_in flights run ≡ Some flight → flight.run ≡ run
found_run [] run flight is = absurd (cc)
found_run (other ∷ flights) run flight is = at (is_of run other) refl (found_run flights run flight)
  where
    at : (b : Bool) → is_of run other ≡ b → (flight_in flights run ≡ Some flight → flight.run ≡ run) → flight.run ≡ run
    at true e rest =
        let here : Some other ≡ Some flight = ap (λ b. cond b (Some other) (flight_in flights run)) (sym e) ∙ is in
        let same : other ≡ flight = cc in
        ap (λ (f : Flight). f.run) (sym same) ∙ eqb-true other.run run e
    at false e rest = rest (ap (λ b. cond b (Some other) (flight_in flights run)) (sym e) ∙ is)

-- where none is found, none is left out
pub none_left : (flights : List Flight) (run : ℕ) → flight_in flights run ≡ None → without run flights ≡ flights
none_left [] run is = refl
none_left (flight ∷ flights) run is = at (is_of run flight) refl (none_left flights run)
  where
    at : (b : Bool) → is_of run flight ≡ b → (flight_in flights run ≡ None → without run flights ≡ flights)
        → cond (is_of run flight) flights (flight ∷ without run flights) ≡ flight ∷ flights
    at true e rest =
        let clash : Some flight ≡ None = ap (λ b. cond b (Some flight) (flight_in flights run)) (sym e) ∙ is in
        absurd (cc)
    at false e rest =
        ap (λ b. cond b flights (flight ∷ without run flights)) e
        ∙ ap (λ (fs : List Flight). flight ∷ fs) (rest (ap (λ b. cond b (Some flight) (flight_in flights run)) (sym e) ∙ is))

-- ---- tickets in hand

-- what holds of each of a list holds of the one that is found, and of the one at a place
module _ (P : Flight → Type 0) where
  abbrev pub AllAre : List Flight → Type 0
  AllAre [] = Unit {0}
  AllAre (flight ∷ flights) = P flight × AllAre flights

  pub all_found : (flights : List Flight) (run : ℕ) (flight : Flight) → AllAre flights → flight_in flights run ≡ Some flight → P flight
  all_found [] run flight all is = absurd (cc)
  all_found (other ∷ flights) run flight all is = at (is_of run other) refl (all_found flights run flight all.1)
    where
      at : (b : Bool) → is_of run other ≡ b → (flight_in flights run ≡ Some flight → P flight) → P flight
      at true e rest =
          let here : Some other ≡ Some flight = ap (λ b. cond b (Some other) (flight_in flights run)) (sym e) ∙ is in
          let same : other ≡ flight = cc in
          subst P same all.0
      at false e rest = rest (ap (λ b. cond b (Some other) (flight_in flights run)) (sym e) ∙ is)

  pub all_without : (flights : List Flight) (run : ℕ) → AllAre flights → AllAre (without run flights)
  all_without [] run all = tt
  all_without (other ∷ flights) run all = at (is_of run other) refl (all_without flights run all.1)
    where
      at : (b : Bool) → is_of run other ≡ b → AllAre (without run flights) → AllAre (cond (is_of run other) flights (other ∷ without run flights))
      at true e rest = subst (λ b. AllAre (cond b flights (other ∷ without run flights))) (sym e) all.1
      at false e rest = subst (λ b. AllAre (cond b flights (other ∷ without run flights))) (sym e) (all.0, rest)

  pub all_push : (flights : List Flight) (flight : Flight) → AllAre flights → P flight → AllAre (flights ++ flight ∷ [])
  all_push [] flight all last = (last, tt)
  all_push (other ∷ flights) flight all last = (all.0, all_push flights flight all.1 last)

module _ (P Q : Flight → Type 0) (still : (flight : Flight) → P flight → Q flight) where
  pub all_still : (flights : List Flight) → AllAre P flights → AllAre Q flights
  all_still [] all = tt
  all_still (flight ∷ flights) all = (still flight all.0, all_still flights all.1)

all_in_hand : (book : BookState) (tickets : List Flight) → AllInHand book tickets → AllAre (InHand book) tickets
all_in_hand book [] all = tt
all_in_hand book (ticket ∷ tickets) all = (all.0, all_in_hand book tickets all.1)

pub in_hand_all : (book : BookState) (tickets : List Flight) → AllAre (InHand book) tickets → AllInHand book tickets
in_hand_all book [] all = tt
in_hand_all book (ticket ∷ tickets) all = (all.0, in_hand_all book tickets all.1)

pub in_hand : (book : BookState) (tickets : List Flight) (run : ℕ) (ticket : Flight) → AllInHand book tickets
    → flight_in tickets run ≡ Some ticket → InHand book ticket
in_hand book tickets run ticket all is = all_found (InHand book) tickets run ticket (all_in_hand book tickets all) is
