-- The attempts that are kept: their live ones are the live runs, and their parked ones the parked attempts.
use Rattle.std.proofs.Common.{◌≡◌, ℕ, zero, suc, ◌≤◌, ◌==◌, ◌&&◌, Bool, true, false, not, cond, List, [], ◌∷◌, ◌++◌, length, None, refl, sym, ap, ◌∙◌, arith}
use Rattle.ph_attempts.specs.Attempts.{is_same_run, live_in, parked_in, without_live, without_parked}
use Rattle.std.specs.List.{filter}
use Rattle.std.proofs.lemmas.Bool.Decides.{nat_tests}
use Rattle.std.proofs.lemmas.List.{append-nil}
use Rattle.std.proofs.lemmas.List.Elements.{filter-append}
use Rattle.ph_base.specs.declared.acquirer.Ruling.{Ruling}
use Rattle.ph_items.specs.declared.intents.CaptureMethod.{CaptureMethod}
use Rattle.ph_items.specs.declared.orders.Order.{Order}
use Rattle.ph_attempts.specs.declared.flights.Flight.{Flight}
use Rattle.ph_attempts.specs.declared.flights.Attempt.{Attempt}
use Rattle.ph_attempts.specs.declared.flights.Attempt.TheVariants as unsettled
use Rattle.ph_facts.specs.Touches.{Cause}
use Rattle.ph_doings.specs.Doings.{Doing, Leaves, Puts, Edits, Begins, Resumes, Parks, Settles}
use Rattle.ph_doings.specs.Kept.{after_step, attempts_after, step_of}
use Rattle.ph_doings.specs.Lawful.{MayDo}
use Rattle.ph_doings.specs.Laws.{AttemptsAreUnsettled, KeepsUnsettled}
use Rattle.ph_doings.specs.Parks.{parked_among, parked_at, parked_attempts, parked_since}
use Rattle.ph_doings.specs.Runs.{Run, NoRun, Flies, ended_by, flights_in, live_run, live_runs, live_up_to}
use Rattle.ph_doings.specs.Standings.{Live, NotBegun, Stands, is_parked, standing_of}
use Rattle.ph_doings.proofs.Kept.{sound}
use Rattle.ph_doings.proofs.Sound.{IsSound}

-- ---- the list

-- flights but that of this run
abbrev pub without_run : Flight → List Flight → List Flight
without_run flight flights = filter (λ other. not (is_same_run flight other)) flights

-- orders but that of this reference
abbrev pub without_order : ℕ → List Order → List Order
without_order reference orders = filter (λ order. not (reference == order.reference)) orders

pub live_in-append : (first more : List Attempt) → live_in (first ++ more) ≡ live_in first ++ live_in more
live_in-append [] more = refl
live_in-append (unsettled.Live flight ∷ first) more = ap (λ xs. flight ∷ xs) (live_in-append first more)
live_in-append (unsettled.Parked order ∷ first) more = live_in-append first more

pub parked_in-append : (first more : List Attempt) → parked_in (first ++ more) ≡ parked_in first ++ parked_in more
parked_in-append [] more = refl
parked_in-append (unsettled.Live flight ∷ first) more = parked_in-append first more
parked_in-append (unsettled.Parked order ∷ first) more = ap (λ xs. order ∷ xs) (parked_in-append first more)

pub live_in-without_live : (flight : Flight) (attempts : List Attempt) → live_in (without_live flight attempts) ≡ without_run flight (live_in attempts)
live_in-without_live flight [] = refl
live_in-without_live flight (unsettled.Live other ∷ attempts) = at (live_in-without_live flight attempts) (is_same_run flight other) refl
  where
    at : live_in (without_live flight attempts) ≡ without_run flight (live_in attempts) → (test : Bool) → is_same_run flight other ≡ test
        → live_in (without_live flight (unsettled.Live other ∷ attempts)) ≡ without_run flight (other ∷ live_in attempts)
    at more true e = rw e more
    at more false e = rw e (ap (λ xs. other ∷ xs) more)
live_in-without_live flight (unsettled.Parked order ∷ attempts) = live_in-without_live flight attempts

pub parked_in-without_live : (flight : Flight) (attempts : List Attempt) → parked_in (without_live flight attempts) ≡ parked_in attempts
parked_in-without_live flight [] = refl
parked_in-without_live flight (unsettled.Live other ∷ attempts) = at (parked_in-without_live flight attempts) (is_same_run flight other) refl
  where
    at : parked_in (without_live flight attempts) ≡ parked_in attempts → (test : Bool) → is_same_run flight other ≡ test
        → parked_in (without_live flight (unsettled.Live other ∷ attempts)) ≡ parked_in attempts
    at more true e = rw e more
    at more false e = rw e more
parked_in-without_live flight (unsettled.Parked order ∷ attempts) = ap (λ xs. order ∷ xs) (parked_in-without_live flight attempts)

pub live_in-without_parked : (reference : ℕ) (attempts : List Attempt) → live_in (without_parked reference attempts) ≡ live_in attempts
live_in-without_parked reference [] = refl
live_in-without_parked reference (unsettled.Live flight ∷ attempts) = ap (λ xs. flight ∷ xs) (live_in-without_parked reference attempts)
live_in-without_parked reference (unsettled.Parked order ∷ attempts) =
    at (live_in-without_parked reference attempts) (reference == order.reference) refl
  where
    at : live_in (without_parked reference attempts) ≡ live_in attempts → (test : Bool) → (reference == order.reference) ≡ test
        → live_in (without_parked reference (unsettled.Parked order ∷ attempts)) ≡ live_in attempts
    at more true e = rw e more
    at more false e = rw e more

pub parked_in-without_parked : (reference : ℕ) (attempts : List Attempt)
    → parked_in (without_parked reference attempts) ≡ without_order reference (parked_in attempts)
parked_in-without_parked reference [] = refl
parked_in-without_parked reference (unsettled.Live flight ∷ attempts) = parked_in-without_parked reference attempts
parked_in-without_parked reference (unsettled.Parked order ∷ attempts) =
    at (parked_in-without_parked reference attempts) (reference == order.reference) refl
  where
    at : parked_in (without_parked reference attempts) ≡ without_order reference (parked_in attempts) → (test : Bool)
        → (reference == order.reference) ≡ test
        → parked_in (without_parked reference (unsettled.Parked order ∷ attempts)) ≡ without_order reference (order ∷ parked_in attempts)
    at more true e = rw e more
    at more false e = rw e (ap (λ xs. order ∷ xs) more)

-- ---- live runs in order

-- where the runs up to a number are the same, so is their list
live_up_to-same : (past now : List Doing) (number : ℕ) → ((run : ℕ) → run ≤ number → live_run now run ≡ live_run past run)
    → live_up_to now number ≡ live_up_to past number
live_up_to-same past now zero same = refl
live_up_to-same past now (suc number) same =
    let last : live_run now (suc number) ≡ live_run past (suc number) = same (suc number) (omega arith) in
    let others : live_up_to now number ≡ live_up_to past number = live_up_to-same past now number (λ run le. same run (omega arith)) in
    rw (others, last) refl

-- a run that begins at the next place comes behind the others
pub begun_last : (past : List Doing) (doing : Doing) (flight : Flight) → ((run : ℕ) → live_run (doing ∷ past) run ≡ cond (run == flight.run) (Flies flight) (live_run past run))
    → flight.run ≡ suc (length past) → live_runs (doing ∷ past) ≡ live_runs past ++ flight ∷ []
begun_last past doing flight step place =
    let others : live_up_to (doing ∷ past) (length past) ≡ live_up_to past (length past) =
    live_up_to-same past (doing ∷ past) (length past) (λ run le. let is = step run in grind (arith, nat_tests)) in
    let new : live_run (doing ∷ past) (suc (length past)) ≡ Flies flight = let is = step (suc (length past)) in grind (arith, nat_tests) in
    rw (others, new) refl

-- where no run changes and none begins at the next place, the live runs stay
pub unchanged : (past : List Doing) (doing : Doing) → ((run : ℕ) → live_run (doing ∷ past) run ≡ live_run past run)
    → live_run past (suc (length past)) ≡ NoRun → live_runs (doing ∷ past) ≡ live_runs past
unchanged past doing step none =
    let others : live_up_to (doing ∷ past) (length past) ≡ live_up_to past (length past) =
    live_up_to-same past (doing ∷ past) (length past) (λ run le. step run) in
    let new : live_run (doing ∷ past) (suc (length past)) ≡ NoRun = step (suc (length past)) ∙ none in
    rw (others, new) (append-nil (live_up_to past (length past)))

-- what an end leaves of a run, as a list
ended_in : (flight : Flight) (run : Run) → flights_in (ended_by flight run) ≡ without_run flight (flights_in run)
ended_in flight NoRun = refl
ended_in flight (Flies other) = at (is_same_run flight other) refl
  where
    at : (test : Bool) → is_same_run flight other ≡ test → flights_in (ended_by flight (Flies other)) ≡ without_run flight (other ∷ [])
    at true e = rw e refl
    at false e = rw e refl

ended_up_to : (past now : List Doing) (flight : Flight) (number : ℕ) → ((run : ℕ) → live_run now run ≡ ended_by flight (live_run past run))
    → live_up_to now number ≡ without_run flight (live_up_to past number)
ended_up_to past now flight zero step = refl
ended_up_to past now flight (suc number) step =
    rw (step (suc number), ended_up_to past now flight number step, ended_in flight (live_run past (suc number)))
    (sym (filter-append (λ other. not (is_same_run flight other)) (live_up_to past number) (flights_in (live_run past (suc number)))))

-- an end drops its run
pub ended_runs : (past : List Doing) (doing : Doing) (flight : Flight) → ((run : ℕ) → live_run (doing ∷ past) run ≡ ended_by flight (live_run past run))
    → live_run past (suc (length past)) ≡ NoRun → live_runs (doing ∷ past) ≡ without_run flight (live_runs past)
ended_runs past doing flight step none =
    let new : live_run (doing ∷ past) (suc (length past)) ≡ NoRun = step (suc (length past)) ∙ ap (ended_by flight) none in
    rw new (append-nil (live_up_to (doing ∷ past) (length past)) ∙ ended_up_to past (doing ∷ past) flight (length past) step)

-- ---- parked attempts in order

-- where what each older doing parked is the same, so is the list
among-same : (past now older : List Doing)
    → ((doing : Doing) (place : ℕ) → place ≤ length past → parked_since now doing place ≡ parked_since past doing place)
    → length older ≤ length past → parked_among now older ≡ parked_among past older
among-same past now [] same le = refl
among-same past now (doing ∷ older) same le =
    let last : parked_since now doing (suc (length older)) ≡ parked_since past doing (suc (length older)) = same doing (suc (length older)) (omega arith) in
    let others : parked_among now older ≡ parked_among past older = among-same past now older same (omega arith) in
    rw (others, last) refl

-- what is parked of one flight, by the tests
abbrev pub FlightSame : List Doing → List Doing → Type 0
FlightSame past now = (flight : Flight) (place : ℕ) → place ≤ length past
    → (is_parked (standing_of now flight.order.reference) && place == parked_at now flight.order.reference)
    ≡ (is_parked (standing_of past flight.order.reference) && place == parked_at past flight.order.reference)

since-same : (past now : List Doing) → FlightSame past now → (doing : Doing) (place : ℕ) → place ≤ length past
    → parked_since now doing place ≡ parked_since past doing place
since-same past now same Leaves place le = refl
since-same past now same (Puts intent put) place le = refl
since-same past now same (Edits intent put) place le = refl
since-same past now same (Begins cause intent flight) place le = refl
since-same past now same (Resumes intent flight) place le = refl
since-same past now same (Parks intent flight) place le = ap (λ test. cond test (flight.order ∷ []) []) (same flight place le)
since-same past now same (Settles intent flight capture ruling) place le = refl

-- where no attempt comes to be parked or is parked no more, the parked attempts stay
parked_stay : (past : List Doing) (doing : Doing) → FlightSame past (doing ∷ past) → parked_among (doing ∷ past) past ≡ parked_attempts past
parked_stay past doing same = among-same past (doing ∷ past) past (since-same past (doing ∷ past) same) (omega arith)

-- an attempt that is taken up again is parked no more
resumed_since : (past : List Doing) (intent : ℕ) (flight : Flight) (doing : Doing) (place : ℕ)
    → parked_since (Resumes intent flight ∷ past) doing place ≡ without_order flight.order.reference (parked_since past doing place)
resumed_since past intent flight Leaves place = refl
resumed_since past intent flight (Puts i put) place = refl
resumed_since past intent flight (Edits i put) place = refl
resumed_since past intent flight (Begins cause i other) place = refl
resumed_since past intent flight (Resumes i other) place = refl
resumed_since past intent flight (Parks i other) place =
    at (other.order.reference == flight.order.reference) refl
    (is_parked (standing_of past other.order.reference) && place == parked_at past other.order.reference) refl
  where
    at : (taken : Bool) → (other.order.reference == flight.order.reference) ≡ taken → (parked : Bool)
        → (is_parked (standing_of past other.order.reference) && place == parked_at past other.order.reference) ≡ parked
        → parked_since (Resumes intent flight ∷ past) (Parks i other) place
        ≡ without_order flight.order.reference (parked_since past (Parks i other) place)
    at true e true f = let same : (flight.order.reference == other.order.reference) ≡ true = grind (arith, nat_tests) in rw (e, f, same) refl
    at true e false f = rw (e, f) refl
    at false e true f = let apart : (flight.order.reference == other.order.reference) ≡ false = grind (arith, nat_tests) in rw (e, f, apart) refl
    at false e false f = rw (e, f) refl
resumed_since past intent flight (Settles i other capture ruling) place = refl

resumed_among : (past older : List Doing) (intent : ℕ) (flight : Flight)
    → parked_among (Resumes intent flight ∷ past) older ≡ without_order flight.order.reference (parked_among past older)
resumed_among past [] intent flight = refl
resumed_among past (doing ∷ older) intent flight =
    rw (resumed_among past older intent flight, resumed_since past intent flight doing (suc (length older)))
    (sym (filter-append (λ order. not (flight.order.reference == order.reference)) (parked_among past older) (parked_since past doing (suc (length older)))))

-- a place of the past is before the next one
pub parked_at-le : (past : List Doing) (reference : ℕ) → parked_at past reference ≤ length past
parked_at-le [] reference = omega arith
parked_at-le (Leaves ∷ past) reference = let old = parked_at-le past reference in omega (arith, old)
parked_at-le (Puts i put ∷ past) reference = let old = parked_at-le past reference in omega (arith, old)
parked_at-le (Edits i put ∷ past) reference = let old = parked_at-le past reference in omega (arith, old)
parked_at-le (Begins cause i f ∷ past) reference = let old = parked_at-le past reference in omega (arith, old)
parked_at-le (Resumes i f ∷ past) reference = let old = parked_at-le past reference in omega (arith, old)
parked_at-le (Parks i f ∷ past) reference = let old = parked_at-le past reference in grind (arith, nat_tests)
parked_at-le (Settles i f capture ruling ∷ past) reference = let old = parked_at-le past reference in omega (arith, old)

-- ---- each doing

begins_parks : (past : List Doing) (cause : Cause) (intent : ℕ) (flight : Flight) → standing_of past flight.order.reference ≡ NotBegun
    → FlightSame past (Begins cause intent flight ∷ past)
begins_parks past cause intent flight new other place le = grind (arith, nat_tests, new)

settles_parks : (past : List Doing) (intent : ℕ) (flight : Flight) (capture : CaptureMethod) (ruling : Ruling)
    → standing_of past flight.order.reference ≡ Stands intent flight.order Live → FlightSame past (Settles intent flight capture ruling ∷ past)
settles_parks past intent flight capture ruling is other place le = grind (arith, nat_tests, is)

parks_parks : (past : List Doing) (intent : ℕ) (flight : Flight)
    → standing_of past flight.order.reference ≡ Stands intent flight.order Live → FlightSame past (Parks intent flight ∷ past)
parks_parks past intent flight is other place le = grind (arith, nat_tests, is)

-- a park puts its attempt behind the others
pub parked_last : (past : List Doing) (intent : ℕ) (flight : Flight) → standing_of past flight.order.reference ≡ Stands intent flight.order Live
    → parked_attempts (Parks intent flight ∷ past) ≡ parked_attempts past ++ flight.order ∷ []
parked_last past intent flight is =
    let others : parked_among (Parks intent flight ∷ past) past ≡ parked_attempts past =
    parked_stay past (Parks intent flight) (parks_parks past intent flight is) in
    let same : (flight.order.reference == flight.order.reference) ≡ true = grind (arith, nat_tests) in
    let now : (suc (length past) == suc (length past)) ≡ true = grind (arith, nat_tests) in
    rw (others, same, now) refl

-- ---- the parked attempts after each doing

pub begins_parked : (past : List Doing) (cause : Cause) (intent : ℕ) (flight : Flight) → standing_of past flight.order.reference ≡ NotBegun
    → parked_attempts (Begins cause intent flight ∷ past) ≡ parked_attempts past
begins_parked past cause intent flight new = append-nil (parked_among (Begins cause intent flight ∷ past) past)
    ∙ parked_stay past (Begins cause intent flight) (begins_parks past cause intent flight new)

pub settles_parked : (past : List Doing) (intent : ℕ) (flight : Flight) (capture : CaptureMethod) (ruling : Ruling)
    → standing_of past flight.order.reference ≡ Stands intent flight.order Live
    → parked_attempts (Settles intent flight capture ruling ∷ past) ≡ parked_attempts past
settles_parked past intent flight capture ruling is = append-nil (parked_among (Settles intent flight capture ruling ∷ past) past)
    ∙ parked_stay past (Settles intent flight capture ruling) (settles_parks past intent flight capture ruling is)

pub resumed_parked : (past : List Doing) (intent : ℕ) (flight : Flight)
    → parked_attempts (Resumes intent flight ∷ past) ≡ without_order flight.order.reference (parked_attempts past)
resumed_parked past intent flight = append-nil (parked_among (Resumes intent flight ∷ past) past) ∙ resumed_among past past intent flight

pub quiet_parked : (past : List Doing) (doing : Doing) → FlightSame past (doing ∷ past)
    → parked_since (doing ∷ past) doing (suc (length past)) ≡ [] → parked_attempts (doing ∷ past) ≡ parked_attempts past
quiet_parked past doing same none = ap (λ xs. parked_among (doing ∷ past) past ++ xs) none
    ∙ append-nil (parked_among (doing ∷ past) past) ∙ parked_stay past doing same

-- a doing that makes no step
quiet_keeps : (past : List Doing) (doing : Doing) → step_of doing ≡ None → ((run : ℕ) → live_run (doing ∷ past) run ≡ live_run past run)
    → FlightSame past (doing ∷ past) → parked_since (doing ∷ past) doing (suc (length past)) ≡ [] → IsSound past → KeepsUnsettled past
    → KeepsUnsettled (doing ∷ past)
quiet_keeps past doing no_step runs parks none holds old = record {
  live = ap (λ step. live_in (after_step (attempts_after past) step)) no_step ∙ old.live
      ∙ sym (unchanged past doing runs (holds.live.known (suc (length past)) (omega arith)));
  parked = ap (λ step. parked_in (after_step (attempts_after past) step)) no_step ∙ old.parked
      ∙ sym (quiet_parked past doing parks none);
}

keeps_as : (past : List Doing) (doing : Doing) → IsSound past → MayDo past doing → KeepsUnsettled past → KeepsUnsettled (doing ∷ past)
keeps_as past Leaves holds may old = quiet_keeps past Leaves refl (λ run. refl) (λ flight place le. refl) refl holds old
keeps_as past (Puts intent put) holds may old = quiet_keeps past (Puts intent put) refl (λ run. refl) (λ flight place le. refl) refl holds old
keeps_as past (Edits intent put) holds may old = quiet_keeps past (Edits intent put) refl (λ run. refl) (λ flight place le. refl) refl holds old
keeps_as past (Begins cause intent flight) holds may old = record {
  live = live_in-append (attempts_after past) (unsettled.Live flight ∷ [])
      ∙ ap (λ xs. xs ++ flight ∷ []) old.live ∙ sym (begun_last past (Begins cause intent flight) flight (λ run. refl) may.0);
  parked = parked_in-append (attempts_after past) (unsettled.Live flight ∷ []) ∙ append-nil (parked_in (attempts_after past)) ∙ old.parked
      ∙ sym (begins_parked past cause intent flight may.1);
}
keeps_as past (Resumes intent flight) holds may old = record {
  live = live_in-append (without_parked flight.order.reference (attempts_after past)) (unsettled.Live flight ∷ [])
      ∙ ap (λ xs. xs ++ flight ∷ []) (live_in-without_parked flight.order.reference (attempts_after past) ∙ old.live)
      ∙ sym (begun_last past (Resumes intent flight) flight (λ run. refl) may.0);
  parked = parked_in-append (without_parked flight.order.reference (attempts_after past)) (unsettled.Live flight ∷ [])
      ∙ append-nil (parked_in (without_parked flight.order.reference (attempts_after past)))
      ∙ parked_in-without_parked flight.order.reference (attempts_after past) ∙ ap (without_order flight.order.reference) old.parked
      ∙ sym (resumed_parked past intent flight);
}
keeps_as past (Parks intent flight) holds may old = record {
  live = live_in-append (without_live flight (attempts_after past)) (unsettled.Parked flight.order ∷ [])
      ∙ append-nil (live_in (without_live flight (attempts_after past)))
      ∙ live_in-without_live flight (attempts_after past) ∙ ap (without_run flight) old.live
      ∙ sym (ended_runs past (Parks intent flight) flight (λ run. refl) (holds.live.known (suc (length past)) (omega arith)));
  parked = parked_in-append (without_live flight (attempts_after past)) (unsettled.Parked flight.order ∷ [])
      ∙ ap (λ xs. xs ++ flight.order ∷ []) (parked_in-without_live flight (attempts_after past) ∙ old.parked)
      ∙ sym (parked_last past intent flight may.1);
}
keeps_as past (Settles intent flight capture ruling) holds may old = record {
  live = live_in-without_live flight (attempts_after past) ∙ ap (without_run flight) old.live
      ∙ sym (ended_runs past (Settles intent flight capture ruling) flight (λ run. refl) (holds.live.known (suc (length past)) (omega arith)));
  parked = parked_in-without_live flight (attempts_after past) ∙ old.parked
      ∙ sym (settles_parked past intent flight capture ruling may.1);
}

pub attempts_are_unsettled : AttemptsAreUnsettled
attempts_are_unsettled [] lawful = record { live = refl; parked = refl }
attempts_are_unsettled (doing ∷ past) lawful = keeps_as past doing (sound past lawful.1) lawful.0 (attempts_are_unsettled past lawful.1)
