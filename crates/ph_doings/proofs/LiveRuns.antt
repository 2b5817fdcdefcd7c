-- Live runs: each doing that may come keeps that they are those of the live attempts.
use Rattle.std.proofs.Common.{◌≡◌, ℕ, suc, ◌∷◌, List, length, arith}
use Rattle.std.proofs.lemmas.Bool.Decides.{nat_tests}
use Rattle.ph_base.specs.declared.acquirer.Ruling.{Ruling}
use Rattle.ph_attempts.specs.declared.flights.Flight.{Flight}
use Rattle.ph_items.specs.declared.intents.CaptureMethod.{CaptureMethod}
use Rattle.ph_items.specs.declared.intents.IntentStatus.{IntentStatus}
use Rattle.ph_facts.specs.Touches.{Cause}
use Rattle.ph_doings.specs.Doings.{Doing, Leaves, Puts, Edits, Begins, Resumes, Parks, Settles}
use Rattle.ph_doings.specs.Runs.{Flies, live_run}
use Rattle.ph_doings.specs.Standings.{Live, Parked, NotBegun, Stands, standing_of}
use Rattle.ph_doings.proofs.Sound.{HasLiveRuns}

pub live_leaves : (past : List Doing) → HasLiveRuns past → HasLiveRuns (Leaves ∷ past)
live_leaves past old = record {
  known = λ run h. old.known run (omega arith);
  above = old.above;
  number = old.number;
  newest = old.newest;
  live = old.live;
  own = old.own;
  flown = old.flown;
}

pub live_puts : (past : List Doing) (intent : ℕ) (put : IntentStatus) → HasLiveRuns past → HasLiveRuns (Puts intent put ∷ past)
live_puts past intent status old = record {
  known = λ run h. old.known run (omega arith);
  above = old.above;
  number = old.number;
  newest = old.newest;
  live = old.live;
  own = old.own;
  flown = old.flown;
}

pub live_edits : (past : List Doing) (intent : ℕ) (put : IntentStatus) → HasLiveRuns past → HasLiveRuns (Edits intent put ∷ past)
live_edits past intent status old = record {
  known = λ run h. old.known run (omega arith);
  above = old.above;
  number = old.number;
  newest = old.newest;
  live = old.live;
  own = old.own;
  flown = old.flown;
}

pub live_begins : (past : List Doing) (cause : Cause) (intent : ℕ) (flight : Flight) → HasLiveRuns past → flight.run ≡ suc (length past)
    → standing_of past flight.order.reference ≡ NotBegun → HasLiveRuns (Begins cause intent flight ∷ past)
live_begins past cause intent flight old place new = record {
  known = λ run h. grind (arith, nat_tests, place, old.known run);
  above = λ run f h. grind (arith, nat_tests, place, old.above run f);
  number = λ run f h. grind (arith, nat_tests, old.number run f);
  newest = λ run f h. grind (arith, nat_tests, new, old.newest run f, old.live run f);
  live = λ run f h. grind (arith, nat_tests, new, old.live run f);
  own = λ q o h. grind (arith, nat_tests, old.own q o);
  flown = λ q o h. grind (arith, nat_tests, place, old.flown q o, old.known (suc (length past)));
}

pub live_resumes : (past : List Doing) (intent : ℕ) (flight : Flight) → HasLiveRuns past → flight.run ≡ suc (length past)
    → standing_of past flight.order.reference ≡ Stands intent flight.order Parked → HasLiveRuns (Resumes intent flight ∷ past)
live_resumes past intent flight old place is = record {
  known = λ run h. grind (arith, nat_tests, place, old.known run);
  above = λ run f h. grind (arith, nat_tests, place, old.above run f);
  number = λ run f h. grind (arith, nat_tests, old.number run f);
  newest = λ run f h. grind (arith, nat_tests, is, old.newest run f, old.live run f);
  live = λ run f h. grind (arith, nat_tests, is, old.live run f);
  own = λ q o h. grind (arith, nat_tests, old.own q o);
  flown = λ q o h. grind (arith, nat_tests, place, old.flown q o, old.known (suc (length past)));
}

pub live_parks : (past : List Doing) (intent : ℕ) (flight : Flight) → HasLiveRuns past → live_run past flight.run ≡ Flies flight
    → standing_of past flight.order.reference ≡ Stands intent flight.order Live → HasLiveRuns (Parks intent flight ∷ past)
live_parks past intent flight old flies is = record {
  known = λ run h. grind (arith, nat_tests, old.known run);
  above = λ run f h. grind (arith, nat_tests, old.above run f);
  number = λ run f h. grind (arith, nat_tests, old.number run f);
  newest = λ run f h. grind (arith, nat_tests, old.newest run f);
  live = λ run f h. grind (arith, nat_tests, flies, old.newest run f, old.live run f, old.number run f, old.newest flight.run flight);
  own = λ q o h. grind (arith, nat_tests, old.own q o);
  flown = λ q o h. grind (arith, nat_tests, flies, old.flown q o, old.own q o, old.newest flight.run flight);
}

pub live_settles : (past : List Doing) (intent : ℕ) (flight : Flight) (capture : CaptureMethod) (ruling : Ruling) → HasLiveRuns past
    → live_run past flight.run ≡ Flies flight → standing_of past flight.order.reference ≡ Stands intent flight.order Live
    → HasLiveRuns (Settles intent flight capture ruling ∷ past)
live_settles past intent flight capture ruling old flies is = record {
  known = λ run h. grind (arith, nat_tests, old.known run);
  above = λ run f h. grind (arith, nat_tests, old.above run f);
  number = λ run f h. grind (arith, nat_tests, old.number run f);
  newest = λ run f h. grind (arith, nat_tests, old.newest run f);
  live = λ run f h. grind (arith, nat_tests, flies, old.newest run f, old.live run f, old.number run f, old.newest flight.run flight);
  own = λ q o h. grind (arith, nat_tests, old.own q o);
  flown = λ q o h. grind (arith, nat_tests, flies, old.flown q o, old.own q o, old.newest flight.run flight);
}
