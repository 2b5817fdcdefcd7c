-- How many runs are live.
use Rattle.std.proofs.Common.{◌≡◌, ℕ, zero, suc, ◌+◌, ◌<◌, ◌≤◌, ◌==◌, Bool, true, false, not, List, [], ◌∷◌, ◌++◌, length, refl, sym, ap, ◌∙◌, length-append, arith}
use Rattle.ph_attempts.specs.Attempts.{is_same_run}
use Rattle.std.proofs.lemmas.Bool.Decides.{nat_tests}
use Rattle.std.proofs.lemmas.List.Elements.{filter-append}
use Rattle.ph_attempts.specs.declared.flights.Flight.{Flight}
use Rattle.ph_doings.specs.Doings.{Doing, Leaves, Puts, Edits, Begins, Resumes, Parks, Settles}
use Rattle.ph_doings.specs.Laws.{RunsAreCounted}
use Rattle.ph_doings.specs.Runs.{Run, NoRun, Flies, flights_in, live_run, live_runs, live_up_to}
use Rattle.ph_doings.proofs.FoundRuns.{run_known}
use Rattle.ph_doings.proofs.Kept.{sound}
use Rattle.ph_doings.proofs.KeptLists.{begun_last, ended_runs, unchanged, without_run}
use Rattle.ph_doings.proofs.Sound.{HasLiveRuns}

-- a run that isn't there isn't taken out
all_stay : (past : List Doing) (flight : Flight) (number : ℕ) → HasLiveRuns past → number < flight.run
    → length (without_run flight (live_up_to past number)) ≡ length (live_up_to past number)
all_stay past flight zero holds lt = refl
all_stay past flight (suc number) holds lt =
    ap length (filter-append (λ other. not (is_same_run flight other)) (live_up_to past number) (flights_in (live_run past (suc number))))
    ∙ length-append (without_run flight (live_up_to past number)) (without_run flight (flights_in (live_run past (suc number))))
    ∙ ap (λ n. n + length (without_run flight (flights_in (live_run past (suc number))))) (all_stay past flight number holds (omega (arith, lt)))
    ∙ ap (λ n. length (live_up_to past number) + n) (at (live_run past (suc number)) refl)
    ∙ sym (length-append (live_up_to past number) (flights_in (live_run past (suc number))))
  where
    at : (here : Run) → live_run past (suc number) ≡ here
        → length (without_run flight (flights_in (live_run past (suc number)))) ≡ length (flights_in (live_run past (suc number)))
    at NoRun is = rw is refl
    at (Flies other) is =
        let own : other.run ≡ suc number = holds.number (suc number) other is in
        let apart : is_same_run flight other ≡ false = grind (arith, nat_tests) in
        rw (is, apart) refl

-- of the runs up to a number one is taken out, where it is among them
one_goes : (past : List Doing) (flight : Flight) (number : ℕ) → HasLiveRuns past → live_run past flight.run ≡ Flies flight → flight.run ≤ number
    → length (without_run flight (live_up_to past number)) + 1 ≡ length (live_up_to past number)
one_goes past flight zero holds flies le = let above = holds.above flight.run flight flies in absurd (omega (arith, above, le))
one_goes past flight (suc number) holds flies le =
    ap (λ n. n + 1) (ap length (filter-append (λ other. not (is_same_run flight other)) (live_up_to past number) (flights_in (live_run past (suc number))))
    ∙ length-append (without_run flight (live_up_to past number)) (without_run flight (flights_in (live_run past (suc number)))))
    ∙ at (flight.run == suc number) refl (one_goes past flight number holds flies)
    ∙ sym (length-append (live_up_to past number) (flights_in (live_run past (suc number))))
  where
    stays : (here : Run) → live_run past (suc number) ≡ here → (flight.run == suc number) ≡ false
        → length (without_run flight (flights_in (live_run past (suc number)))) ≡ length (flights_in (live_run past (suc number)))
    stays NoRun is e = rw is refl
    stays (Flies other) is e =
        let own : other.run ≡ suc number = holds.number (suc number) other is in
        let apart : is_same_run flight other ≡ false = grind (arith, nat_tests) in
        rw (is, apart) refl

    at : (here : Bool) → (flight.run == suc number) ≡ here
        → (flight.run ≤ number → length (without_run flight (live_up_to past number)) + 1 ≡ length (live_up_to past number))
        → (length (without_run flight (live_up_to past number)) + length (without_run flight (flights_in (live_run past (suc number))))) + 1
        ≡ length (live_up_to past number) + length (flights_in (live_run past (suc number)))
    at true e more =
        let same : flight.run ≡ suc number = grind (arith, nat_tests) in
        let there : live_run past (suc number) ≡ Flies flight = ap (live_run past) (sym same) ∙ flies in
        let one : is_same_run flight flight ≡ true = grind (arith, nat_tests) in
        let others : length (without_run flight (live_up_to past number)) ≡ length (live_up_to past number) =
        all_stay past flight number holds (omega (arith, same)) in
        rw (there, one, others) (omega arith)
    at false e more =
        let before : flight.run ≤ number = grind (arith, nat_tests) in
        let others = more before in
        let here = stays (live_run past (suc number)) refl e in
        omega (arith, others, here)

ended : (past : List Doing) (doing : Doing) (flight : Flight) → HasLiveRuns past → live_run past flight.run ≡ Flies flight
    → live_runs (doing ∷ past) ≡ without_run flight (live_runs past) → length (live_runs (doing ∷ past)) + 1 ≡ length (live_runs past) + 0
ended past doing flight holds flies is =
    let one : length (without_run flight (live_runs past)) + 1 ≡ length (live_runs past) =
    one_goes past flight (length past) holds flies (run_known past flight.run flight holds flies) in
    ap (λ (flights : List Flight). length flights + 1) is ∙ one ∙ omega arith

begun : (past : List Doing) (doing : Doing) (flight : Flight) → live_runs (doing ∷ past) ≡ live_runs past ++ flight ∷ []
    → length (live_runs (doing ∷ past)) + 0 ≡ length (live_runs past) + 1
begun past doing flight is = ap (λ (flights : List Flight). length flights + 0) is
    ∙ ap (λ n. n + 0) (length-append (live_runs past) (flight ∷ [])) ∙ omega arith

pub runs_are_counted : RunsAreCounted
runs_are_counted past Leaves lawful = let holds = (sound past lawful.1).live in
    ap (λ (flights : List Flight). length flights + 0) (unchanged past Leaves (λ run. refl) (holds.known (suc (length past)) (omega arith)))
runs_are_counted past (Puts intent put) lawful = let holds = (sound past lawful.1).live in
    ap (λ (flights : List Flight). length flights + 0) (unchanged past (Puts intent put) (λ run. refl) (holds.known (suc (length past)) (omega arith)))
runs_are_counted past (Edits intent put) lawful = let holds = (sound past lawful.1).live in
    ap (λ (flights : List Flight). length flights + 0) (unchanged past (Edits intent put) (λ run. refl) (holds.known (suc (length past)) (omega arith)))
runs_are_counted past (Begins cause intent flight) lawful =
    begun past (Begins cause intent flight) flight (begun_last past (Begins cause intent flight) flight (λ run. refl) lawful.0.0)
runs_are_counted past (Resumes intent flight) lawful =
    begun past (Resumes intent flight) flight (begun_last past (Resumes intent flight) flight (λ run. refl) lawful.0.0)
runs_are_counted past (Parks intent flight) lawful = let holds = (sound past lawful.1).live in
    ended past (Parks intent flight) flight holds lawful.0.0
    (ended_runs past (Parks intent flight) flight (λ run. refl) (holds.known (suc (length past)) (omega arith)))
runs_are_counted past (Settles intent flight capture ruling) lawful = let holds = (sound past lawful.1).live in
    ended past (Settles intent flight capture ruling) flight holds lawful.0.0
    (ended_runs past (Settles intent flight capture ruling) flight (λ run. refl) (holds.known (suc (length past)) (omega arith)))
