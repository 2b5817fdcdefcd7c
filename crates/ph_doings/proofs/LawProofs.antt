-- The laws, from what holds.
use Rattle.std.proofs.Common.{◌≡◌, ℕ, List, Some, refl, sym, ap, ◌∙◌, arith}
use Rattle.std.proofs.lemmas.Bool.Decides.{nat_tests}
use Rattle.ph_attempts.specs.declared.flights.Flight.{Flight}
use Rattle.ph_items.specs.declared.orders.Order.{Order}
use Rattle.ph_doings.specs.Doings.{Doing}
use Rattle.ph_doings.specs.Laws.{AllButTheLastWereChallenged, ApprovedOnce, Finds, HasOneUnsettled, IsFlown, LiveIsRun, ProcessingHasOneAttempt, ReferencesDiffer}
use Rattle.ph_doings.specs.Runs.{Run, NoRun, Flies, live_run}
use Rattle.ph_doings.specs.Standings.{Live, Parked, Settled, Standing, NotBegun, Stands, standing_of}
use Rattle.ph_doings.proofs.Newest.{last_of, live_order, order_flown, run_of}
use Rattle.ph_doings.proofs.Kept.{sound}
use Rattle.ph_doings.proofs.Sound.{HasNewestUnsettled, HasLiveRuns}

pub references_differ : ReferencesDiffer
references_differ past lawful = (sound past lawful).references.differ

one_unsettled : (past : List Doing) → HasNewestUnsettled past → HasOneUnsettled past
one_unsettled past holds = record {
  exactly = λ intent. (λ is. (last_of past intent, holds.unsettled intent is), λ found. holds.processing intent found.0 found.1);
  never_two = λ intent reference other h k. holds.newest intent reference h ∙ sym (holds.newest intent other k);
}

pub processing_has_one_attempt : ProcessingHasOneAttempt
processing_has_one_attempt past lawful = one_unsettled past (sound past lawful).unsettled

pub all_but_the_last_were_challenged : AllButTheLastWereChallenged
all_but_the_last_were_challenged past lawful = (sound past lawful).chains.challenged

pub approved_once : ApprovedOnce
approved_once past lawful = (sound past lawful).approvals.once

-- a live attempt's payment intent is processing
found_at : (past : List Doing) (flight : Flight) → HasNewestUnsettled past → (standing : Standing)
    → standing_of past flight.order.reference ≡ standing → live_order standing ≡ Some flight.order → Finds past flight
found_at past flight holds NotBegun is live = absurd (cc)
found_at past flight holds (Stands intent order Live) is live =
    let same : order ≡ flight.order = cc in
    let stands : standing_of past flight.order.reference ≡ Stands intent flight.order Live = is ∙ ap (λ o. Stands intent o Live) same in record {
      intent = intent;
      standing = stands;
      processing = holds.processing intent flight.order.reference (rw stands (grind (arith, nat_tests)));
    }
found_at past flight holds (Stands intent order Parked) is live = absurd (cc)
found_at past flight holds (Stands intent order (Settled ruling)) is live = absurd (cc)

flown_at : (past : List Doing) (reference : ℕ) (order : Order) → HasLiveRuns past → live_order (standing_of past reference) ≡ Some order
    → (run : Run) → live_run past (run_of past reference) ≡ run → order_flown run ≡ Some order → IsFlown past reference
flown_at past reference order holds live NoRun is flown = absurd (cc)
flown_at past reference order holds live (Flies flight) is flown = record {
  flight = flight;
  live = ap (live_run past) (holds.number (run_of past reference) flight is) ∙ is;
  reference_is = let same : flight.order ≡ order = cc in ap (λ (o : Order). o.reference) same ∙ holds.own reference order live;
}

pub live_is_run : LiveIsRun
live_is_run past lawful = let holds = sound past lawful in record {
  number = holds.live.number;
  finds = λ run flight is. found_at past flight holds.unsettled (standing_of past flight.order.reference) refl (holds.live.live run flight is);
  flown = λ reference intent order is.
      let live : live_order (standing_of past reference) ≡ Some order = rw is refl in
      flown_at past reference order holds.live live (live_run past (run_of past reference)) refl (holds.live.flown reference order live);
  never_two = λ run other flight second h k same. holds.live.newest run flight h ∙ ap (run_of past) same ∙ sym (holds.live.newest other second k);
}
