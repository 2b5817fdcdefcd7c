-- Approvals: each doing that may come keeps that a payment intent is approved at most once.
use Rattle.std.proofs.Common.{◌≡◌, ℕ, true, ◌∷◌, List, Some, arith}
use Rattle.std.proofs.lemmas.Bool.Decides.{nat_tests}
use Rattle.ph_base.specs.declared.acquirer.Ruling.{Ruling}
use Rattle.ph_attempts.specs.declared.flights.Flight.{Flight}
use Rattle.ph_items.specs.declared.intents.CaptureMethod.{CaptureMethod}
use Rattle.ph_items.specs.declared.intents.IntentStatus.{IntentStatus}
use Rattle.ph_facts.specs.Touches.{Cause}
use Rattle.ph_doings.specs.Doings.{Doing, Leaves, Puts, Edits, Begins, Resumes, Parks, Settles}
use Rattle.ph_doings.specs.Standings.{Live, Parked, NotBegun, Stands, standing_of}
use Rattle.ph_facts.specs.Statuses.{may_begin, may_put}
use Rattle.ph_doings.specs.Statuses.{status_of}
use Rattle.ph_doings.proofs.Sound.{HasNewestUnsettled, HasOneApproval}
use Rattle.ph_doings.proofs.Tables.{not_begun_when_over, over_stays}

pub approvals_leaves : (past : List Doing) → HasOneApproval past → HasOneApproval (Leaves ∷ past)
approvals_leaves past old = record { over = old.over; once = old.once }

pub approvals_puts : (past : List Doing) (intent : ℕ) (put : IntentStatus) → HasOneApproval past → may_put (status_of past intent) put ≡ true
    → HasOneApproval (Puts intent put ∷ past)
approvals_puts past intent put old may = record {
  over = λ i q h. grind (arith, nat_tests, old.over i q, over_stays (status_of past intent) put may);
  once = old.once;
}

pub approvals_edits : (past : List Doing) (intent : ℕ) (put : IntentStatus) → HasOneApproval past → status_of past intent ≡ Some put
    → HasOneApproval (Edits intent put ∷ past)
approvals_edits past intent put old is = record {
  over = λ i q h. grind (arith, nat_tests, old.over i q);
  once = old.once;
}

pub approvals_begins : (past : List Doing) (cause : Cause) (intent : ℕ) (flight : Flight) → HasOneApproval past
    → standing_of past flight.order.reference ≡ NotBegun → may_begin cause (status_of past intent) ≡ true
    → HasOneApproval (Begins cause intent flight ∷ past)
approvals_begins past cause intent flight old new may = record {
  over = λ i q h. grind (arith, nat_tests, new, old.over i q, not_begun_when_over cause (status_of past intent) may);
  once = λ i p q h k. grind (arith, nat_tests, new, old.once i p q);
}

pub approvals_resumes : (past : List Doing) (intent : ℕ) (flight : Flight) → HasOneApproval past
    → standing_of past flight.order.reference ≡ Stands intent flight.order Parked → HasOneApproval (Resumes intent flight ∷ past)
approvals_resumes past intent flight old is = record {
  over = λ i q h. grind (arith, nat_tests, is, old.over i q);
  once = λ i p q h k. grind (arith, nat_tests, is, old.once i p q);
}

pub approvals_parks : (past : List Doing) (intent : ℕ) (flight : Flight) → HasOneApproval past
    → standing_of past flight.order.reference ≡ Stands intent flight.order Live → HasOneApproval (Parks intent flight ∷ past)
approvals_parks past intent flight old is = record {
  over = λ i q h. grind (arith, nat_tests, is, old.over i q);
  once = λ i p q h k. grind (arith, nat_tests, is, old.once i p q);
}

pub approvals_settles : (past : List Doing) (intent : ℕ) (flight : Flight) (capture : CaptureMethod) (ruling : Ruling) → HasNewestUnsettled past
    → HasOneApproval past → standing_of past flight.order.reference ≡ Stands intent flight.order Live
    → HasOneApproval (Settles intent flight capture ruling ∷ past)
approvals_settles past intent flight capture ruling one old is = record {
  over = λ i q h. grind (arith, nat_tests, is, old.over i q, one.processing intent flight.order.reference);
  once = λ i p q h k. grind (arith, nat_tests, is, old.once i p q, old.over i p, old.over i q, one.processing intent flight.order.reference);
}
