-- The ends of runs may come, and do what they say.
use Rattle.std.proofs.Common.{◌≡◌, ℕ, ◌==◌, if◌then◌else◌, Bool, true, false, List, [], ◌∷◌, Option, Some, None, refl, ap, ◌∙◌, arith}
use Rattle.std.proofs.lemmas.Bool.Decides.{nat_tests}
use Rattle.ph_base.specs.declared.acquirer.Ruling.{Ruling}
use Rattle.ph_attempts.specs.declared.flights.Flight.{Flight}
use Rattle.ph_items.specs.declared.intents.CaptureMethod.{CaptureMethod}
use Rattle.ph_items.specs.declared.orders.Order.{Order}
use Rattle.ph_doings.specs.Doings.{Doing, Leaves, Puts, Edits, Begins, Resumes, Parks, Settles}
use Rattle.ph_doings.specs.Ends.{EndsAreTotal, LiveRunsEnd, finish_of, for_intent, park_of, resume_of, resume_order, resumed_by, with_own}
use Rattle.ph_doings.specs.Lawful.{MayDo}
use Rattle.ph_doings.specs.Laws.{Finds, RunsFlyAttempts}
use Rattle.ph_doings.specs.Parks.{first_parked}
use Rattle.ph_doings.specs.Runs.{Run, NoRun, Flies, live_run}
use Rattle.ph_doings.specs.Standings.{Live, Parked, Settled, State, Standing, NotBegun, Stands, standing_of}
use Rattle.ph_doings.proofs.LawProofs.{live_is_run}

-- an attempt stands under an order of its own reference
pub own_order : (past : List Doing) (reference intent : ℕ) (order : Order) (state : State) → standing_of past reference ≡ Stands intent order state
    → order.reference ≡ reference
own_order [] reference i o s is = absurd (cc)
own_order (Leaves ∷ past) reference i o s is = own_order past reference i o s is
own_order (Puts intent put ∷ past) reference i o s is = own_order past reference i o s is
own_order (Edits intent put ∷ past) reference i o s is = own_order past reference i o s is
own_order (Begins cause intent flight ∷ past) reference i o s is = let old = own_order past reference i o s in grind (arith, nat_tests, old)
own_order (Resumes intent flight ∷ past) reference i o s is = let old = own_order past reference i o s in grind (arith, nat_tests, old)
own_order (Parks intent flight ∷ past) reference i o s is = let old = own_order past reference i o s in grind (arith, nat_tests, old)
own_order (Settles intent flight capture ruling ∷ past) reference i o s is = let old = own_order past reference i o s in grind (arith, nat_tests, old)

-- what is done with a live run of a caller, where that may come
own_may : (past : List Doing) (does : Flight → Doing) (caller : ℕ) → (run : Run) → ((flight : Flight) → run ≡ Flies flight → MayDo past (does flight))
    → MayDo past (with_own does caller run)
own_may past does caller NoRun may = tt
own_may past does caller (Flies flight) may = at (flight.caller == caller)
  where
    at : (own : Bool) → MayDo past (if own then does flight else Leaves)
    at true = may flight refl
    at false = tt

finish_may : (past : List Doing) → RunsFlyAttempts past → (caller run : ℕ) (capture : ℕ → CaptureMethod) (ruling : Ruling)
    → MayDo past (finish_of past caller run capture ruling)
finish_may past runs caller run capture ruling =
    own_may past (λ flight. for_intent (λ intent. Settles intent flight (capture intent) ruling) (standing_of past flight.order.reference))
    caller (live_run past run) (λ flight is. at flight is (runs.finds run flight is))
  where
    at : (flight : Flight) → live_run past run ≡ Flies flight → Finds past flight
        → MayDo past (for_intent (λ intent. Settles intent flight (capture intent) ruling) (standing_of past flight.order.reference))
    at flight is finds = rw finds.standing (ap (live_run past) (runs.number run flight is) ∙ is, finds.standing)

park_may : (past : List Doing) → RunsFlyAttempts past → (caller run : ℕ) → MayDo past (park_of past caller run)
park_may past runs caller run =
    own_may past (λ flight. for_intent (λ intent. Parks intent flight) (standing_of past flight.order.reference))
    caller (live_run past run) (λ flight is. at flight is (runs.finds run flight is))
  where
    at : (flight : Flight) → live_run past run ≡ Flies flight → Finds past flight
        → MayDo past (for_intent (λ intent. Parks intent flight) (standing_of past flight.order.reference))
    at flight is finds = rw finds.standing (ap (live_run past) (runs.number run flight is) ∙ is, finds.standing)

resume_may : (past : List Doing) (caller reference : ℕ) → ((intent : ℕ) (order : Order) → standing_of past reference ≡ Stands intent order Parked
    → order.reference ≡ reference) → (standing : Standing) → standing_of past reference ≡ standing → MayDo past (resumed_by past caller standing)
resume_may past caller reference own NotBegun is = tt
resume_may past caller reference own (Stands intent order Live) is = tt
resume_may past caller reference own (Stands intent order Parked) is = (refl, ap (standing_of past) (own intent order is) ∙ is)
resume_may past caller reference own (Stands intent order (Settled ruling)) is = tt

resume_any : (past : List Doing) (caller reference : ℕ) → MayDo past (resume_of past caller reference)
resume_any past caller reference = resume_may past caller reference (λ intent order is. own_order past reference intent order Parked is) (standing_of past reference) refl

first_may : (past : List Doing) (caller : ℕ) (first : Option Order) → MayDo past (resume_order past caller first)
first_may past caller None = tt
first_may past caller (Some order) = resume_any past caller order.reference

pub ends_are_total : EndsAreTotal
ends_are_total past lawful = let runs = live_is_run past lawful in record {
  finish = finish_may past runs;
  park = park_may past runs;
  resume = resume_any past;
  resume_first = λ caller. first_may past caller (first_parked past);
}

pub live_runs_end : LiveRunsEnd
live_runs_end past flight lawful is =
    let finds = (live_is_run past lawful).finds flight.run flight is in
    let own : (flight.caller == flight.caller) ≡ true = grind (arith, nat_tests) in record {
      intent = finds.intent;
      finish = λ capture ruling. rw (is, own, finds.standing) refl;
      park = rw (is, own, finds.standing) refl;
    }
