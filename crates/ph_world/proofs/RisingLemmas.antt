-- The live runs of a past stand in the order of their numbers.
use Rattle.std.proofs.Common.{◌≡◌, ℕ, zero, suc, ◌<◌, ◌≤◌, Bool, true, false, not, cond, List, [], ◌∷◌, ◌++◌, length, Some, refl, sym, ap, ◌∙◌, subst, arith}
use Rattle.std.proofs.lemmas.Bool.Decides.{nat_tests}
use Rattle.std.proofs.lemmas.List.{append-nil}
use Rattle.ph_attempts.specs.Attempts.{is_same_run}
use Rattle.ph_attempts.specs.declared.flights.Flight.{Flight}
use Rattle.ph_doings.specs.Doings.{Doing}
use Rattle.ph_doings.specs.Runs.{Run, NoRun, Flies, flights_in, live_run, live_runs, live_up_to}
use Rattle.ph_book.specs.Laws.{all_but_run}
use Rattle.ph_world.specs.Flights.{flight_in, is_of, without}
use Rattle.ph_world.proofs.FlightLemmas.{AllAre, all_push, found_run}

-- the numbers rise, from above this one up to that one
abbrev pub RiseWithin : ℕ → ℕ → List Flight → Type 0
RiseWithin low high [] = low ≤ high
RiseWithin low high (flight ∷ flights) = (low < flight.run) × RiseWithin flight.run high flights

rise_wider : (low high more : ℕ) (flights : List Flight) → high ≤ more → RiseWithin low high flights → RiseWithin low more flights
rise_wider low high more [] le rise = omega (arith, le, rise)
rise_wider low high more (flight ∷ flights) le rise = (rise.0, rise_wider flight.run high more flights le rise.1)

rise_push : (low high : ℕ) (flights : List Flight) (flight : Flight) → high < flight.run → RiseWithin low high flights
    → RiseWithin low flight.run (flights ++ flight ∷ [])
rise_push low high [] flight lt rise = (omega (arith, lt, rise), omega arith)
rise_push low high (other ∷ flights) flight lt rise = (rise.0, rise_push other.run high flights flight lt rise.1)

-- ---- live runs

abbrev pub OwnNumbers : List Doing → Type 0
OwnNumbers past = (run : ℕ) (flight : Flight) → live_run past run ≡ Flies flight → flight.run ≡ run

rise_next : (past : List Doing) (number : ℕ) (here : Run) → (((flight : Flight) → here ≡ Flies flight → flight.run ≡ suc number))
    → RiseWithin 0 number (live_up_to past number) → RiseWithin 0 (suc number) (live_up_to past number ++ flights_in here)
rise_next past number NoRun own rise =
    subst (RiseWithin 0 (suc number)) (sym (append-nil (live_up_to past number))) (rise_wider 0 number (suc number) (live_up_to past number) (omega arith) rise)
rise_next past number (Flies flight) own rise =
    let is : flight.run ≡ suc number = own flight refl in
    subst (λ n. RiseWithin 0 n (live_up_to past number ++ flight ∷ [])) is
    (rise_push 0 number (live_up_to past number) flight (omega (arith, is)) rise)

rise_up_to : (past : List Doing) (number : ℕ) → OwnNumbers past → RiseWithin 0 number (live_up_to past number)
rise_up_to past zero own = omega arith
rise_up_to past (suc number) own = rise_next past number (live_run past (suc number)) (λ flight is. own (suc number) flight is) (rise_up_to past number own)

pub live_rise : (past : List Doing) → OwnNumbers past → RiseWithin 0 (length past) (live_runs past)
live_rise past own = rise_up_to past (length past) own

-- each live run flies
abbrev pub FliesIn : List Doing → Flight → Type 0
FliesIn past flight = live_run past flight.run ≡ Flies flight

fly_next : (past : List Doing) (number : ℕ) (here : Run) → live_run past (suc number) ≡ here → OwnNumbers past
    → AllAre (FliesIn past) (live_up_to past number) → AllAre (FliesIn past) (live_up_to past number ++ flights_in here)
fly_next past number NoRun is own all = subst (AllAre (FliesIn past)) (sym (append-nil (live_up_to past number))) all
fly_next past number (Flies flight) is own all =
    all_push (FliesIn past) (live_up_to past number) flight all (ap (live_run past) (own (suc number) flight is) ∙ is)

fly_up_to : (past : List Doing) (number : ℕ) → OwnNumbers past → AllAre (FliesIn past) (live_up_to past number)
fly_up_to past zero own = tt
fly_up_to past (suc number) own = fly_next past number (live_run past (suc number)) refl own (fly_up_to past number own)

pub live_fly : (past : List Doing) → OwnNumbers past → AllAre (FliesIn past) (live_runs past)
live_fly past own = fly_up_to past (length past) own

-- ---- a run taken out

-- a run below all of them isn't among them
none_goes : (flight : Flight) (flights : List Flight) (low high : ℕ) → flight.run ≤ low → RiseWithin low high flights → all_but_run flight flights ≡ flights
none_goes flight [] low high le rise = refl
none_goes flight (other ∷ flights) low high le rise =
    let lt : low < other.run = rise.0 in
    let apart : is_same_run flight other ≡ false = grind (arith, nat_tests, lt, le) in
    ap (λ b. cond (not b) (other ∷ all_but_run flight flights) (all_but_run flight flights)) apart
    ∙ ap (λ (fs : List Flight). other ∷ fs) (none_goes flight flights other.run high (omega (arith, lt, le)) rise.1)

-- the first is taken out
pub first_goes : (flight : Flight) (flights : List Flight) (low high : ℕ) → RiseWithin low high (flight ∷ flights)
    → all_but_run flight (flight ∷ flights) ≡ flights
first_goes flight flights low high rise =
    let one : is_same_run flight flight ≡ true = grind (arith, nat_tests) in
    ap (λ b. cond (not b) (flight ∷ all_but_run flight flights) (all_but_run flight flights)) one
    ∙ none_goes flight flights flight.run high (omega arith) rise.1

-- the one of a number is
pub one_goes : (run : ℕ) (flight : Flight) (flights : List Flight) (low high : ℕ) → RiseWithin low high flights
    → flight_in flights run ≡ Some flight → without run flights ≡ all_but_run flight flights
one_goes run flight [] low high rise is = absurd (cc)
one_goes run flight (other ∷ flights) low high rise is = at (is_of run other) refl (one_goes run flight flights other.run high rise.1)
  where
    at : (b : Bool) → is_of run other ≡ b
        → (flight_in flights run ≡ Some flight → without run flights ≡ all_but_run flight flights)
        → cond (is_of run other) flights (other ∷ without run flights) ≡ all_but_run flight (other ∷ flights)
    at true e rest =
        let here : Some other ≡ Some flight = ap (λ b. cond b (Some other) (flight_in flights run)) (sym e) ∙ is in
        let same : other ≡ flight = cc in
        ap (λ b. cond b flights (other ∷ without run flights)) e
        ∙ sym (subst (λ (f : Flight). all_but_run f (other ∷ flights) ≡ flights) same (first_goes other flights low high rise))
    at false e rest =
        let there : flight_in flights run ≡ Some flight = ap (λ b. cond b (Some other) (flight_in flights run)) (sym e) ∙ is in
        let number : flight.run ≡ run = found_run flights run flight there in
        let apart : is_same_run flight other ≡ false = grind (arith, nat_tests, e, number) in
        ap (λ b. cond b flights (other ∷ without run flights)) e
        ∙ ap (λ (fs : List Flight). other ∷ fs) (rest there)
        ∙ sym (ap (λ b. cond (not b) (other ∷ all_but_run flight flights) (all_but_run flight flights)) apart)
