-- References: each doing that may come keeps that they differ.
use Rattle.std.proofs.Common.{◌≡◌, ℕ, ◌∷◌, List, arith}
use Rattle.std.proofs.lemmas.Bool.Decides.{nat_tests}
use Rattle.ph_base.specs.declared.acquirer.Ruling.{Ruling}
use Rattle.ph_attempts.specs.declared.flights.Flight.{Flight}
use Rattle.ph_items.specs.declared.intents.CaptureMethod.{CaptureMethod}
use Rattle.ph_items.specs.declared.intents.IntentStatus.{IntentStatus}
use Rattle.ph_facts.specs.Touches.{Cause}
use Rattle.ph_doings.specs.Doings.{Doing, Leaves, Puts, Edits, Begins, Resumes, Parks, Settles}
use Rattle.ph_doings.specs.Standings.{NotBegun, standing_of}
use Rattle.ph_doings.proofs.Sound.{HasOwnReferences}

pub own_leaves : (past : List Doing) → HasOwnReferences past → HasOwnReferences (Leaves ∷ past)
own_leaves past old = record {
  begun = λ place reference h. grind (arith, nat_tests, old.begun place reference);
  differ = λ place other reference h k. grind (arith, nat_tests, old.differ place other reference);
}

pub own_puts : (past : List Doing) (intent : ℕ) (put : IntentStatus) → HasOwnReferences past → HasOwnReferences (Puts intent put ∷ past)
own_puts past intent status old = record {
  begun = λ place reference h. grind (arith, nat_tests, old.begun place reference);
  differ = λ place other reference h k. grind (arith, nat_tests, old.differ place other reference);
}

pub own_edits : (past : List Doing) (intent : ℕ) (put : IntentStatus) → HasOwnReferences past → HasOwnReferences (Edits intent put ∷ past)
own_edits past intent status old = record {
  begun = λ place reference h. grind (arith, nat_tests, old.begun place reference);
  differ = λ place other reference h k. grind (arith, nat_tests, old.differ place other reference);
}

pub own_begins : (past : List Doing) (cause : Cause) (intent : ℕ) (flight : Flight) → HasOwnReferences past
    → standing_of past flight.order.reference ≡ NotBegun → HasOwnReferences (Begins cause intent flight ∷ past)
own_begins past cause intent flight old new = record {
  begun = λ place reference h. grind (arith, nat_tests, old.begun place reference);
  differ = λ place other reference h k. grind (arith, nat_tests, new, old.differ place other reference, old.begun place reference, old.begun other reference);
}

pub own_resumes : (past : List Doing) (intent : ℕ) (flight : Flight) → HasOwnReferences past → HasOwnReferences (Resumes intent flight ∷ past)
own_resumes past intent flight old = record {
  begun = λ place reference h. grind (arith, nat_tests, old.begun place reference);
  differ = λ place other reference h k. grind (arith, nat_tests, old.differ place other reference);
}

pub own_parks : (past : List Doing) (intent : ℕ) (flight : Flight) → HasOwnReferences past → HasOwnReferences (Parks intent flight ∷ past)
own_parks past intent flight old = record {
  begun = λ place reference h. grind (arith, nat_tests, old.begun place reference);
  differ = λ place other reference h k. grind (arith, nat_tests, old.differ place other reference);
}

pub own_settles : (past : List Doing) (intent : ℕ) (flight : Flight) (capture : CaptureMethod) (ruling : Ruling) → HasOwnReferences past
    → HasOwnReferences (Settles intent flight capture ruling ∷ past)
own_settles past intent flight capture ruling old = record {
  begun = λ place reference h. grind (arith, nat_tests, old.begun place reference);
  differ = λ place other reference h k. grind (arith, nat_tests, old.differ place other reference);
}
