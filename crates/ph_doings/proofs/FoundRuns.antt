-- Live runs are found among the attempts that are kept, and stay through the steps of other callers.
use Rattle.std.proofs.Common.{◌≡◌, ◌≢◌, ℕ, zero, suc, ◌<◌, ◌≤◌, ◌==◌, Bool, true, false, cond, List, [], ◌∷◌, ◌++◌, length, Option, Some, None, refl, sym, ap, ◌∙◌, arith}
use Rattle.std.specs.List.{find}
use Rattle.std.proofs.lemmas.Bool.Decides.{nat_tests}
use Rattle.std.proofs.lemmas.List.{append-nil}
use Rattle.ph_attempts.specs.Attempts.{Step, flight_of, is_same_run, live_in, without_live, without_parked}
use Rattle.ph_attempts.specs.Attempts as step
use Rattle.ph_attempts.specs.declared.flights.Flight.{Flight}
use Rattle.ph_attempts.specs.declared.flights.Attempt.TheVariants as unsettled
use Rattle.ph_doings.specs.Doings.{Doing}
use Rattle.ph_doings.specs.Kept.{is_run}
use Rattle.ph_doings.specs.Laws.{RunsAreFound, RunsStay}
use Rattle.ph_doings.specs.Runs.{Run, NoRun, Flies, flights_in, live_run, live_up_to}
use Rattle.ph_doings.proofs.Kept.{sound}
use Rattle.ph_doings.proofs.KeptLists.{attempts_are_unsettled, live_in-append, live_in-without_live, live_in-without_parked, without_run}
use Rattle.ph_doings.proofs.Sound.{HasLiveRuns}

-- ---- lists

find-front : (test : Flight → Bool) (first more : List Flight) (flight : Flight) → find test first ≡ Some flight → find test (first ++ more) ≡ Some flight
find-front test [] more flight h = absurd (cc)
find-front test (x ∷ first) more flight h = at (test x) refl (find-front test first more flight)
  where
    at : (passes : Bool) → test x ≡ passes → (find test first ≡ Some flight → find test (first ++ more) ≡ Some flight) → find test ((x ∷ first) ++ more) ≡ Some flight
    at true e rest = rw e (rw e at h)
    at false e rest = rw e (rest (rw e at h))

find-behind : (test : Flight → Bool) (first more : List Flight) → find test first ≡ None → find test (first ++ more) ≡ find test more
find-behind test [] more h = refl
find-behind test (x ∷ first) more h = at (test x) refl (find-behind test first more)
  where
    at : (passes : Bool) → test x ≡ passes → (find test first ≡ None → find test (first ++ more) ≡ find test more) → find test ((x ∷ first) ++ more) ≡ find test more
    at true e rest = let no_place : Some x ≡ None = rw e at h in absurd (cc)
    at false e rest = rw e (rest (rw e at h))

find_one : (test : Flight → Bool) (flight : Flight) → test flight ≡ true → find test (flight ∷ []) ≡ Some flight
find_one test flight e = rw e refl

find_other : (test : Flight → Bool) (flight : Flight) → test flight ≡ false → find test (flight ∷ []) ≡ None
find_other test flight e = rw e refl

-- ---- found

-- what is found among the live runs up to a number is one of them
found_up_to : (past : List Doing) (test : Flight → Bool) (number : ℕ) (flight : Flight) → find test (live_up_to past number) ≡ Some flight
    → (run : ℕ) × (live_run past run ≡ Flies flight) × (test flight ≡ true)
found_up_to past test zero flight h = absurd (cc)
found_up_to past test (suc number) flight h =
    at (find test (live_up_to past number)) refl (found_up_to past test number) (live_run past (suc number)) refl
  where
    last : (run : Run) → find test (flights_in run) ≡ Some flight → (run ≡ Flies flight) × (test flight ≡ true)
    last NoRun e = absurd (cc)
    last (Flies other) e = passes (test other) refl
      where
        passes : (p : Bool) → test other ≡ p → (Flies other ≡ Flies flight) × (test flight ≡ true)
        passes true p = let same : Some other ≡ Some flight = rw p at e in let is : other ≡ flight = cc in (ap Flies is, rw (sym is) p)
        passes false p = let none : None ≡ Some flight = rw p at e in absurd (cc)

    at : (before : Option Flight) → find test (live_up_to past number) ≡ before
        → ((other : Flight) → find test (live_up_to past number) ≡ Some other → (run : ℕ) × (live_run past run ≡ Flies other) × (test other ≡ true))
        → (here : Run) → live_run past (suc number) ≡ here
        → (run : ℕ) × (live_run past run ≡ Flies flight) × (test flight ≡ true)
    at (Some other) e more here is =
        let same : Some other ≡ Some flight = sym (find-front test (live_up_to past number) (flights_in (live_run past (suc number))) other e) ∙ h in
        let one : other ≡ flight = cc in
        more flight (e ∙ ap Some one)
    at None e more here is =
        let there : find test (flights_in (live_run past (suc number))) ≡ Some flight =
        sym (find-behind test (live_up_to past number) (flights_in (live_run past (suc number))) e) ∙ h in
        let it = last here (ap (λ r. find test (flights_in r)) (sym is) ∙ there) in
        (suc number, is ∙ it.0, it.1)

-- no run of a number is among those below it
none_below : (past : List Doing) (caller run number : ℕ) → HasLiveRuns past → number < run → find (is_run caller run) (live_up_to past number) ≡ None
none_below past caller run zero holds lt = refl
none_below past caller run (suc number) holds lt =
    find-behind (is_run caller run) (live_up_to past number) (flights_in (live_run past (suc number))) (none_below past caller run number holds (omega (arith, lt)))
    ∙ at (live_run past (suc number)) refl
  where
    at : (here : Run) → live_run past (suc number) ≡ here → find (is_run caller run) (flights_in (live_run past (suc number))) ≡ None
    at NoRun is = rw is refl
    at (Flies flight) is =
        let own : flight.run ≡ suc number = holds.number (suc number) flight is in
        rw is (find_other (is_run caller run) flight (grind (arith, nat_tests)))

-- the live run of a number is found among those up to it, and those further on
finds_up_to : (past : List Doing) (run : ℕ) (flight : Flight) (number : ℕ) → HasLiveRuns past → live_run past run ≡ Flies flight → run ≤ number
    → find (is_run flight.caller run) (live_up_to past number) ≡ Some flight
finds_up_to past run flight zero holds is le = let above = holds.above run flight is in absurd (omega (arith, above, le))
finds_up_to past run flight (suc number) holds is le = at (run == suc number) refl (finds_up_to past run flight number holds is)
  where
    at : (here : Bool) → (run == suc number) ≡ here → (run ≤ number → find (is_run flight.caller run) (live_up_to past number) ≡ Some flight)
        → find (is_run flight.caller run) (live_up_to past (suc number)) ≡ Some flight
    at true e more =
        let same : run ≡ suc number = grind (arith, nat_tests) in
        let own : flight.run ≡ run = holds.number run flight is in
        let there : live_run past (suc number) ≡ Flies flight = ap (live_run past) (sym same) ∙ is in
        find-behind (is_run flight.caller run) (live_up_to past number) (flights_in (live_run past (suc number)))
        (none_below past flight.caller run number holds (omega (arith, same)))
        ∙ rw there (find_one (is_run flight.caller run) flight (grind (arith, nat_tests)))
    at false e more = find-front (is_run flight.caller run) (live_up_to past number) (flights_in (live_run past (suc number))) flight
        (more (grind (arith, nat_tests)))

pub run_known : (past : List Doing) (run : ℕ) (flight : Flight) → HasLiveRuns past → live_run past run ≡ Flies flight → run ≤ length past
run_known past run flight holds is = grind (arith, nat_tests, holds.known run)

pub runs_are_found : RunsAreFound
runs_are_found past lawful = let holds = (sound past lawful).live in let kept = attempts_are_unsettled past lawful in record {
  found = λ caller run flight h. (
      let it = found_up_to past (is_run caller run) (length past) flight (ap (find (is_run caller run)) (sym kept.live) ∙ h) in
      let own : flight.run ≡ it.0 = holds.number it.0 flight it.1 in
      let same : flight.run ≡ run = grind (arith, nat_tests) in
      (ap (live_run past) (sym same ∙ own) ∙ it.1, same, grind (arith, nat_tests))
      );
  finds = λ run flight is. ap (find (is_run flight.caller run)) kept.live
      ∙ finds_up_to past run flight (length past) holds is (run_known past run flight holds is);
}

-- ---- other callers' steps

find-without : (flight : Flight) (caller run : ℕ) (flights : List Flight) → flight.caller ≢ caller
    → find (is_run caller run) (without_run flight flights) ≡ find (is_run caller run) flights
find-without flight caller run [] apart = refl
find-without flight caller run (other ∷ flights) apart =
    at (is_same_run flight other) refl (find-without flight caller run flights apart)
  where
    at : (same : Bool) → is_same_run flight other ≡ same → find (is_run caller run) (without_run flight flights) ≡ find (is_run caller run) flights
        → find (is_run caller run) (without_run flight (other ∷ flights)) ≡ find (is_run caller run) (other ∷ flights)
    at true e more =
        let not_it : is_run caller run other ≡ false = grind (arith, nat_tests) in
        rw (e, not_it) more
    at false e more = rw e (ap (cond (is_run caller run other) (Some other)) more)

pub runs_stay : RunsStay
runs_stay attempts (step.Begins flight) caller run mine h apart =
    ap (find (is_run caller run)) (live_in-append attempts (unsettled.Live flight ∷ []))
    ∙ find-front (is_run caller run) (live_in attempts) (flight ∷ []) mine h
runs_stay attempts (step.Resumes flight) caller run mine h apart =
    ap (find (is_run caller run)) (live_in-append (without_parked flight.order.reference attempts) (unsettled.Live flight ∷ [])
    ∙ ap (λ xs. xs ++ flight ∷ []) (live_in-without_parked flight.order.reference attempts))
    ∙ find-front (is_run caller run) (live_in attempts) (flight ∷ []) mine h
runs_stay attempts (step.Parks flight) caller run mine h apart =
    ap (find (is_run caller run)) (live_in-append (without_live flight attempts) (unsettled.Parked flight.order ∷ [])
    ∙ append-nil (live_in (without_live flight attempts)) ∙ live_in-without_live flight attempts)
    ∙ find-without flight caller run (live_in attempts) apart ∙ h
runs_stay attempts (step.Settles flight) caller run mine h apart =
    ap (find (is_run caller run)) (live_in-without_live flight attempts)
    ∙ find-without flight caller run (live_in attempts) apart ∙ h
