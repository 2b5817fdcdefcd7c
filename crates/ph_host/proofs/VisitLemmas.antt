-- How the connections of a worker follow each other.
use Rattle.std.proofs.Common.{◌≡◌, ℕ, suc, ◌+◌, Bool, true, false, List, [], ◌∷◌, ◌++◌, length, None, Some, refl, sym, ap, subst, ◌∙◌, arith}
use Rattle.ph_io.specs.Gates.{GateState, AllBack, Gives, GateEnds, GateFails, TakesBack}
use Rattle.ph_io.specs.declared.end.End.{End}
use Rattle.ph_io.specs.declared.end.End.TheVariants as end
use Rattle.ph_io.proofs.GateLemmas.{all_back_none, all_back_more, all_back_ends, all_back_fails}
use Rattle.ph_bank.specs.Patiences.{next_count, counted_on}
use Rattle.ph_conn.specs.Means.{Means}
use Rattle.ph_host.specs.Visits.{Visit, IsVisit, AreVisits, AllGoOn, record_of, records_of, one_if, counted_if, broken_in, is_broken, stop_of, end_of, EndsEarly, EndsAs, Served}
use Rattle.ph_host.specs.declared.workers.WorkerEnd.{WorkerEnd}
use Rattle.ph_host.specs.declared.workers.WorkerEnd.TheVariants as worker

-- what stands of a worker between two connections
pub record Serving (limit served given_up : ℕ) (means0 means1 : Means) (gate0 gate1 : GateState) : Type 0 where
  pub visits : List Visit
  pub visited : AreVisits limit means0 visits means1
  pub all_back : AllBack gate0 gate1 (records_of visits)
  pub went_on : AllGoOn visits
  pub sessions : served ≡ counted_on 0 (length visits)
  pub broken : given_up ≡ counted_on 0 (broken_in visits)

-- it has begun
pub serving_none : (limit : ℕ) (means : Means) (gate : GateState) → Serving limit 0 0 means means gate gate
serving_none limit means gate = record {
  visits = [];
  visited = refl;
  all_back = all_back_none gate;
  went_on = tt;
  sessions = refl;
  broken = refl;
}

records_more : (visits : List Visit) (visit : Visit) → records_of (visits ++ visit ∷ []) ≡ records_of visits ++ record_of visit ∷ []
records_more [] visit = refl
records_more (v ∷ visits) visit = ap (λ backs. record_of v ∷ backs) (records_more visits visit)

visits_more : (limit : ℕ) (means0 means1 : Means) (visits : List Visit) (visit : Visit) → AreVisits limit means0 visits means1
    → IsVisit limit means1 visit → AreVisits limit means0 (visits ++ visit ∷ []) visit.means
visits_more limit means0 means1 [] visit same is = (subst (λ means. IsVisit limit means visit) same is, refl)
visits_more limit means0 means1 (v ∷ visits) visit are is = (are.0, visits_more limit v.means means1 visits visit are.1 is)

go_on_more : (visits : List Visit) (visit : Visit) → AllGoOn visits → stop_of (end_of visit.ending) ≡ None → AllGoOn (visits ++ visit ∷ [])
go_on_more [] visit all on = (on, tt)
go_on_more (v ∷ visits) visit all on = (all.0, go_on_more visits visit all.1 on)

length_more : (visits : List Visit) (visit : Visit) → length (visits ++ visit ∷ []) ≡ suc (length visits)
length_more [] visit = refl
length_more (v ∷ visits) visit = ap suc (length_more visits visit)

broken_more : (visits : List Visit) (visit : Visit) → broken_in (visits ++ visit ∷ []) ≡ one_if (is_broken (end_of visit.ending)) + broken_in visits
broken_more [] visit = refl
broken_more (v ∷ visits) visit = let more = broken_more visits visit in omega arith

back_more : (gate0 gate1 gate2 gate3 : GateState) (visits : List Visit) (visit : Visit) → AllBack gate0 gate1 (records_of visits) → Gives gate1 gate2
    → TakesBack gate2 gate3 (record_of visit) → AllBack gate0 gate3 (records_of (visits ++ visit ∷ []))
back_more gate0 gate1 gate2 gate3 visits visit all gave took =
    subst (AllBack gate0 gate3) (sym (records_more visits visit)) (all_back_more all gave took)

counted_more : (b : Bool) (n m : ℕ) → n ≡ counted_on 0 m → counted_if b n ≡ counted_on 0 (one_if b + m)
counted_more true n m e = ap next_count e ∙ ap (counted_on 0) (let more : suc m ≡ 1 + m = omega arith in more)
counted_more false n m e = e ∙ ap (counted_on 0) (let none : m ≡ 0 + m = omega arith in none)

-- one more connection was served, and the worker takes the next one
pub serving_more : (limit served given_up : ℕ) (means0 means1 : Means) (gate0 gate1 gate2 gate3 : GateState) (visit : Visit)
    → Serving limit served given_up means0 means1 gate0 gate1 → Gives gate1 gate2 → TakesBack gate2 gate3 (record_of visit) → IsVisit limit means1 visit
    → stop_of (end_of visit.ending) ≡ None
    → Serving limit (counted_if true served) (counted_if (is_broken (end_of visit.ending)) given_up) means0 visit.means gate0 gate3
serving_more limit served given_up means0 means1 gate0 gate1 gate2 gate3 visit so_far gave took is on = record {
  visits = so_far.visits ++ visit ∷ [];
  visited = visits_more limit means0 means1 so_far.visits visit so_far.visited is;
  all_back = back_more gate0 gate1 gate2 gate3 so_far.visits visit so_far.all_back gave took;
  went_on = go_on_more so_far.visits visit so_far.went_on on;
  sessions = ap next_count so_far.sessions ∙ ap (counted_on 0) (sym (length_more so_far.visits visit));
  broken = counted_more (is_broken (end_of visit.ending)) given_up (broken_in so_far.visits) so_far.broken ∙ ap (counted_on 0) (sym (broken_more so_far.visits visit));
}

-- the same under other names of the counts
pub serving_as : (limit served given_up served1 given_up1 : ℕ) (means0 means1 : Means) (gate0 gate1 : GateState) → served1 ≡ served → given_up1 ≡ given_up
    → Serving limit served given_up means0 means1 gate0 gate1 → Serving limit served1 given_up1 means0 means1 gate0 gate1
serving_as limit served given_up served1 given_up1 means0 means1 gate0 gate1 a b s = record {
  visits = s.visits;
  visited = s.visited;
  all_back = s.all_back;
  went_on = s.went_on;
  sessions = a ∙ s.sessions;
  broken = b ∙ s.broken;
}

-- then there were no more
pub served_done : (limit served given_up : ℕ) (means0 means1 : Means) (gate0 gate1 gate2 : GateState)
    → Serving limit served given_up means0 means1 gate0 gate1 → GateEnds gate1 gate2 → Served limit (worker.Done served given_up) means0 means1 gate0 gate2
served_done limit served given_up means0 means1 gate0 gate1 gate2 so_far last = record {
  visits = so_far.visits;
  served = so_far.visited;
  ended = record { all_back = all_back_ends so_far.all_back last; went_on = so_far.went_on; sessions = so_far.sessions; broken = so_far.broken };
}

-- then the gate failed
pub served_failed : (limit served given_up : ℕ) (means0 means1 : Means) (gate0 gate1 gate2 : GateState)
    → Serving limit served given_up means0 means1 gate0 gate1 → GateFails gate1 gate2 → Served limit worker.GateFault means0 means1 gate0 gate2
served_failed limit served given_up means0 means1 gate0 gate1 gate2 so_far last = record {
  visits = so_far.visits;
  served = so_far.visited;
  ended = record { all_back = all_back_fails so_far.all_back last; went_on = so_far.went_on };
}

stops_so : (how : End) (stop : WorkerEnd) (visits : List Visit) (gate0 gate1 : GateState) → stop_of how ≡ Some stop
    → EndsEarly how visits gate0 gate1 → EndsAs stop visits gate0 gate1
stops_so end.Closed stop visits gate0 gate1 is ends = absurd (let clash : None ≡ Some stop = is in cc)
stops_so end.Cut stop visits gate0 gate1 is ends = absurd (let clash : None ≡ Some stop = is in cc)
stops_so end.ReadFault stop visits gate0 gate1 is ends = absurd (let clash : None ≡ Some stop = is in cc)
stops_so end.WriteFault stop visits gate0 gate1 is ends = absurd (let clash : None ≡ Some stop = is in cc)
stops_so end.KeepFault stop visits gate0 gate1 is ends = absurd (let clash : None ≡ Some stop = is in cc)
stops_so end.Full stop visits gate0 gate1 is ends =
    subst (λ w. EndsAs w visits gate0 gate1) (let e : Some worker.Full ≡ Some stop = is in let same : worker.Full ≡ stop = cc in same) ends
stops_so end.NoMemory stop visits gate0 gate1 is ends =
    subst (λ w. EndsAs w visits gate0 gate1) (let e : Some worker.NoMemory ≡ Some stop = is in let same : worker.NoMemory ≡ stop = cc in same) ends

-- the last connection was served, and the worker ends behind it
pub served_last : (limit served given_up : ℕ) (means0 means1 : Means) (gate0 gate1 gate2 gate3 : GateState) (visit : Visit) (stop : WorkerEnd)
    → Serving limit served given_up means0 means1 gate0 gate1 → Gives gate1 gate2 → TakesBack gate2 gate3 (record_of visit) → IsVisit limit means1 visit
    → stop_of (end_of visit.ending) ≡ Some stop → Served limit stop means0 visit.means gate0 gate3
served_last limit served given_up means0 means1 gate0 gate1 gate2 gate3 visit stop so_far gave took is ends = record {
  visits = so_far.visits ++ visit ∷ [];
  served = visits_more limit means0 means1 so_far.visits visit so_far.visited is;
  ended = stops_so (end_of visit.ending) stop (so_far.visits ++ visit ∷ []) gate0 gate3 ends (record {
    all_back = back_more gate0 gate1 gate2 gate3 so_far.visits visit so_far.all_back gave took;
    early = took.ended ∙ gave.ended;
    last = record { before = so_far.visits; last = visit; all = refl; went_on = so_far.went_on; ended = refl };
  });
}
