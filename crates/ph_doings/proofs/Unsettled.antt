-- Unsettled attempts: each doing that may come keeps that an intent which is processing has one.
use Rattle.std.proofs.Common.{◌≡◌, ℕ, ◌∷◌, List, Some, arith}
use Rattle.std.proofs.lemmas.Bool.Decides.{nat_tests}
use Rattle.ph_base.specs.declared.acquirer.Ruling.{Ruling}
use Rattle.ph_attempts.specs.declared.flights.Flight.{Flight}
use Rattle.ph_items.specs.declared.intents.CaptureMethod.{CaptureMethod}
use Rattle.ph_items.specs.declared.intents.IntentStatus.{IntentStatus}
use Rattle.ph_items.specs.declared.intents.IntentStatus.TheVariants as status
use Rattle.ph_facts.specs.Touches.{Cause}
use Rattle.ph_doings.specs.Doings.{Doing, Leaves, Puts, Edits, Begins, Resumes, Parks, Settles}
use Rattle.ph_doings.specs.Standings.{Live, Parked, NotBegun, Stands, standing_of}
use Rattle.ph_doings.specs.Statuses.{status_of}
use Rattle.ph_doings.proofs.Sound.{HasNewestUnsettled}

pub unsettled_leaves : (past : List Doing) → HasNewestUnsettled past → HasNewestUnsettled (Leaves ∷ past)
unsettled_leaves past old = record { processing = old.processing; newest = old.newest; unsettled = old.unsettled }

pub unsettled_puts : (past : List Doing) (intent : ℕ) (put : IntentStatus) → HasNewestUnsettled past
    → (status_of past intent ≡ Some status.Processing → ⊥) → (put ≡ status.Processing → ⊥) → HasNewestUnsettled (Puts intent put ∷ past)
unsettled_puts past intent put old free still = record {
  processing = λ i q h. grind (arith, nat_tests, free, old.processing i q, old.processing intent q);
  newest = old.newest;
  unsettled = λ i h. grind (arith, nat_tests, free, still, old.unsettled i);
}

pub unsettled_edits : (past : List Doing) (intent : ℕ) (put : IntentStatus) → HasNewestUnsettled past → status_of past intent ≡ Some put
    → HasNewestUnsettled (Edits intent put ∷ past)
unsettled_edits past intent kept old is = record {
  processing = λ i q h. grind (arith, nat_tests, old.processing i q, old.processing intent q);
  newest = old.newest;
  unsettled = λ i h. grind (arith, nat_tests, old.unsettled i, old.unsettled intent);
}

pub unsettled_begins : (past : List Doing) (cause : Cause) (intent : ℕ) (flight : Flight) → HasNewestUnsettled past
    → standing_of past flight.order.reference ≡ NotBegun → (status_of past intent ≡ Some status.Processing → ⊥)
    → HasNewestUnsettled (Begins cause intent flight ∷ past)
unsettled_begins past cause intent flight old new free = record {
  processing = λ i q h. grind (arith, nat_tests, free, old.processing i q);
  newest = λ i q h. grind (arith, nat_tests, free, old.processing i q, old.newest i q);
  unsettled = λ i h. grind (arith, nat_tests, free, new, old.unsettled i);
}

pub unsettled_resumes : (past : List Doing) (intent : ℕ) (flight : Flight) → HasNewestUnsettled past
    → standing_of past flight.order.reference ≡ Stands intent flight.order Parked → HasNewestUnsettled (Resumes intent flight ∷ past)
unsettled_resumes past intent flight old is = record {
  processing = λ i q h. grind (arith, nat_tests, is, old.processing i q, old.processing intent flight.order.reference);
  newest = λ i q h. grind (arith, nat_tests, is, old.newest i q, old.newest intent flight.order.reference);
  unsettled = λ i h. grind (arith, nat_tests, is, old.unsettled i);
}

pub unsettled_parks : (past : List Doing) (intent : ℕ) (flight : Flight) → HasNewestUnsettled past
    → standing_of past flight.order.reference ≡ Stands intent flight.order Live → HasNewestUnsettled (Parks intent flight ∷ past)
unsettled_parks past intent flight old is = record {
  processing = λ i q h. grind (arith, nat_tests, is, old.processing i q, old.processing intent flight.order.reference);
  newest = λ i q h. grind (arith, nat_tests, is, old.newest i q, old.newest intent flight.order.reference);
  unsettled = λ i h. grind (arith, nat_tests, is, old.unsettled i);
}

pub unsettled_settles : (past : List Doing) (intent : ℕ) (flight : Flight) (capture : CaptureMethod) (ruling : Ruling) → HasNewestUnsettled past
    → standing_of past flight.order.reference ≡ Stands intent flight.order Live → HasNewestUnsettled (Settles intent flight capture ruling ∷ past)
unsettled_settles past intent flight capture ruling old is = record {
  processing = λ i q h. grind (arith, nat_tests, is, old.processing i q, old.processing intent flight.order.reference, old.newest i q, old.newest intent flight.order.reference);
  newest = λ i q h. grind (arith, nat_tests, is, old.processing i q, old.processing intent flight.order.reference, old.newest i q, old.newest intent flight.order.reference);
  unsettled = λ i h. grind (arith, nat_tests, is, old.processing intent flight.order.reference, old.newest intent flight.order.reference, old.unsettled i);
}
