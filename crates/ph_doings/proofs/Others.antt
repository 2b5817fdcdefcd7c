-- What a caller does leaves the live runs of all others, whether it may come or not.
use Rattle.std.proofs.Common.{◌≡◌, ◌≢◌, ℕ, suc, ◌+◌, ◌<◌, ◌≤◌, ◌==◌, Bool, true, false, cond, List, [], ◌∷◌, ◌++◌, length, Option, Some, None, refl, sym, ap, ◌∙◌, length-append, arith}
use Rattle.std.proofs.lemmas.Bool.Decides.{nat_tests}
use Rattle.ph_items.specs.declared.orders.Order.{Order}
use Rattle.ph_attempts.specs.Attempts.{is_same_run}
use Rattle.ph_attempts.specs.declared.flights.Flight.{Flight}
use Rattle.ph_facts.specs.Touches.{Touch}
use Rattle.ph_facts.specs.Touches as touch
use Rattle.ph_doings.specs.Doings.{Doing, Leaves, Puts, Edits, Begins, Resumes, Parks, Settles, doing_of}
use Rattle.ph_doings.specs.Runs.{Run, NoRun, Flies, ended_by, live_run}

-- no run has the number of a place that isn't taken, and each has its own
pub record AreNumbered (past : List Doing) : Type 0 where
  pub known : (run : ℕ) → length past < run → live_run past run ≡ NoRun
  pub number : (run : ℕ) (flight : Flight) → live_run past run ≡ Flies flight → flight.run ≡ run

-- a run that begins has the number of the next place, or that of a live run of its caller
pub data IsNumbered (past : List Doing) (caller run : ℕ) : Type 0 where
  Next : run ≡ suc (length past) → IsNumbered past caller run
  Again : (other : Flight) → live_run past run ≡ Flies other → other.caller ≡ caller → IsNumbered past caller run

-- a doing begins and ends runs of this caller alone
abbrev pub IsOf : ℕ → List Doing → Doing → Type 0
IsOf caller past Leaves = Unit {0}
IsOf caller past (Puts intent status) = Unit {0}
IsOf caller past (Edits intent status) = Unit {0}
IsOf caller past (Begins cause intent flight) = (flight.caller ≡ caller) × IsNumbered past caller flight.run
IsOf caller past (Resumes intent flight) = (flight.caller ≡ caller) × IsNumbered past caller flight.run
IsOf caller past (Parks intent flight) = flight.caller ≡ caller
IsOf caller past (Settles intent flight capture ruling) = flight.caller ≡ caller

-- what a call or the end of a run does is of its caller
pub touch_is_of : (past : List Doing) (caller run : ℕ) (touch : Touch) → IsNumbered past caller run → IsOf caller past (doing_of caller run touch)
touch_is_of past caller run touch.Untouched numbered = tt
touch_is_of past caller run (touch.Puts intent status) numbered = tt
touch_is_of past caller run (touch.Edits intent status) numbered = tt
touch_is_of past caller run (touch.Begins cause intent order) numbered = (refl, numbered)
touch_is_of past caller run (touch.Resumes intent order) numbered = (refl, numbered)
touch_is_of past caller run (touch.Parks intent order) numbered = refl
touch_is_of past caller run (touch.Settles intent order capture ruling) numbered = refl

-- a place behind as many as there are doings is the next
pub next_place : (past : List Doing) (count place : ℕ) → length past ≡ count → place ≡ count + 1 → place ≡ suc (length past)
next_place past count place same at = omega (arith, same, at)

pub numbered_none : AreNumbered []
numbered_none = record { known = λ run h. refl; number = λ run flight h. absurd (cc) }

-- ---- a run that begins

-- it is no greater than the next
not_above : (past : List Doing) (caller run : ℕ) → AreNumbered past → IsNumbered past caller run → run ≤ suc (length past)
not_above past caller run all (Next is) = omega (arith, is)
not_above past caller run all (Again other live own) = grind (arith, nat_tests, all.known run)

begun_numbered : (past : List Doing) (doing : Doing) (flight : Flight) → AreNumbered past → flight.run ≤ suc (length past)
    → ((run : ℕ) → live_run (doing ∷ past) run ≡ cond (run == flight.run) (Flies flight) (live_run past run)) → AreNumbered (doing ∷ past)
begun_numbered past doing flight all within is = record {
  known = λ run above.
      let other : (run == flight.run) ≡ false = grind (arith, nat_tests) in
      is run ∙ ap (λ b. cond b (Flies flight) (live_run past run)) other ∙ all.known run (omega (arith, above));
  number = λ run other live. at run other (run == flight.run) refl (sym (is run) ∙ live);
}
  where
    at : (run : ℕ) (other : Flight) (test : Bool) → (run == flight.run) ≡ test → cond (run == flight.run) (Flies flight) (live_run past run) ≡ Flies other
        → other.run ≡ run
    at run other true e live =
        let same : Flies flight ≡ Flies other = sym (ap (λ b. cond b (Flies flight) (live_run past run)) e) ∙ live in
        let one : flight ≡ other = cc in
        let own : run ≡ flight.run = grind (arith, nat_tests) in
        ap (λ (f : Flight). f.run) (sym one) ∙ sym own
    at run other false e live = all.number run other (sym (ap (λ b. cond b (Flies flight) (live_run past run)) e) ∙ live)

-- ---- a run that ends

-- what is live after an end was live before it
was_live : (flight other : Flight) (run : Run) → ended_by flight run ≡ Flies other → run ≡ Flies other
was_live flight other NoRun e = e
was_live flight other (Flies live) e = at (is_same_run flight live) refl
  where
    at : (test : Bool) → is_same_run flight live ≡ test → Flies live ≡ Flies other
    at true same = let none : NoRun ≡ Flies other = sym (ap (λ b. cond b NoRun (Flies live)) same) ∙ e in absurd (cc)
    at false same = sym (ap (λ b. cond b NoRun (Flies live)) same) ∙ e

ended_numbered : (past : List Doing) (doing : Doing) (flight : Flight) → AreNumbered past
    → ((run : ℕ) → live_run (doing ∷ past) run ≡ ended_by flight (live_run past run)) → AreNumbered (doing ∷ past)
ended_numbered past doing flight all is = record {
  known = λ run above. is run ∙ ap (ended_by flight) (all.known run (omega (arith, above)));
  number = λ run other live. all.number run other (was_live flight other (live_run past run) (sym (is run) ∙ live));
}

-- ---- one doing more

pub numbered_more : (past : List Doing) (caller : ℕ) (doing : Doing) → AreNumbered past → IsOf caller past doing → AreNumbered (doing ∷ past)
numbered_more past caller Leaves all of = record { known = λ run above. all.known run (omega (arith, above)); number = all.number }
numbered_more past caller (Puts intent status) all of = record { known = λ run above. all.known run (omega (arith, above)); number = all.number }
numbered_more past caller (Edits intent status) all of = record { known = λ run above. all.known run (omega (arith, above)); number = all.number }
numbered_more past caller (Begins cause intent flight) all of =
    begun_numbered past (Begins cause intent flight) flight all (not_above past caller flight.run all of.1) (λ run. refl)
numbered_more past caller (Resumes intent flight) all of =
    begun_numbered past (Resumes intent flight) flight all (not_above past caller flight.run all of.1) (λ run. refl)
numbered_more past caller (Parks intent flight) all of = ended_numbered past (Parks intent flight) flight all (λ run. refl)
numbered_more past caller (Settles intent flight capture ruling) all of = ended_numbered past (Settles intent flight capture ruling) flight all (λ run. refl)

-- a sight of one caller's runs alone
pub record SeesOwn (caller : ℕ) (see : Run → Option Flight) : Type 0 where
  pub none : see NoRun ≡ None
  pub others : (flight : Flight) → flight.caller ≢ caller → see (Flies flight) ≡ None

-- where a run of another caller begins, none of this caller's is live
begun_seen : (past : List Doing) (caller mine : ℕ) (see : Run → Option Flight) (flight : Flight) (run : ℕ) → SeesOwn mine see → caller ≢ mine
    → AreNumbered past → flight.caller ≡ caller → IsNumbered past caller flight.run
    → see (cond (run == flight.run) (Flies flight) (live_run past run)) ≡ see (live_run past run)
begun_seen past caller mine see flight run sees apart all of numbered = at (run == flight.run) refl
  where
    before : run ≡ flight.run → IsNumbered past caller flight.run → see (live_run past run) ≡ None
    before same (Next is) = ap see (all.known run (omega (arith, same, is))) ∙ sees.none
    before same (Again other live own) =
        ap (λ n. see (live_run past n)) same ∙ ap see live ∙ sees.others other (λ e. apart (sym own ∙ e))

    at : (test : Bool) → (run == flight.run) ≡ test → see (cond (run == flight.run) (Flies flight) (live_run past run)) ≡ see (live_run past run)
    at true e =
        let same : run ≡ flight.run = grind (arith, nat_tests) in
        ap (λ b. see (cond b (Flies flight) (live_run past run))) e
        ∙ sees.others flight (λ is. apart (sym of ∙ is)) ∙ sym (before same numbered)
    at false e = ap (λ b. see (cond b (Flies flight) (live_run past run))) e

-- the end of another caller's run ends none of this caller's
ended_seen : (caller mine : ℕ) (see : Run → Option Flight) (flight : Flight) (run : Run) → SeesOwn mine see → caller ≢ mine → flight.caller ≡ caller
    → see (ended_by flight run) ≡ see run
ended_seen caller mine see flight NoRun sees apart of = refl
ended_seen caller mine see flight (Flies other) sees apart of = at (is_same_run flight other) refl
  where
    at : (test : Bool) → is_same_run flight other ≡ test → see (ended_by flight (Flies other)) ≡ see (Flies other)
    at true e =
        let same : flight.caller ≡ other.caller = grind (arith, nat_tests) in
        ap (λ b. see (cond b NoRun (Flies other))) e ∙ sees.none ∙ sym (sees.others other (λ is. apart (sym of ∙ same ∙ is)))
    at false e = ap (λ b. see (cond b NoRun (Flies other))) e

-- what is seen of one caller's runs stays through what another does
pub seen_stays : (past : List Doing) (caller mine : ℕ) (see : Run → Option Flight) (doing : Doing) (run : ℕ) → SeesOwn mine see → caller ≢ mine
    → AreNumbered past → IsOf caller past doing → see (live_run (doing ∷ past) run) ≡ see (live_run past run)
seen_stays past caller mine see Leaves run sees apart all of = refl
seen_stays past caller mine see (Puts intent status) run sees apart all of = refl
seen_stays past caller mine see (Edits intent status) run sees apart all of = refl
seen_stays past caller mine see (Begins cause intent flight) run sees apart all of = begun_seen past caller mine see flight run sees apart all of.0 of.1
seen_stays past caller mine see (Resumes intent flight) run sees apart all of = begun_seen past caller mine see flight run sees apart all of.0 of.1
seen_stays past caller mine see (Parks intent flight) run sees apart all of = ended_seen caller mine see flight (live_run past run) sees apart of
seen_stays past caller mine see (Settles intent flight capture ruling) run sees apart all of =
    ended_seen caller mine see flight (live_run past run) sees apart of

-- one more
pub one_more : {A : Type 0} (xs : List A) (x : A) → length (xs ++ x ∷ []) ≡ suc (length xs)
one_more xs x = let longer : length (xs ++ x ∷ []) ≡ length xs + 1 = length-append xs (x ∷ []) in omega (arith, longer)
