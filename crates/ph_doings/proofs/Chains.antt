-- Confirmations: each doing that may come keeps that all their attempts but the newest were challenged.
use Rattle.std.proofs.Common.{◌≡◌, ℕ, suc, ◌==◌, ◌&&◌, Bool, true, false, List, [], ◌∷◌, length, Some, refl, arith}
use Rattle.std.specs.List.{list_all}
use Rattle.std.proofs.lemmas.Bool.{cond_both, eqb-true}
use Rattle.std.proofs.lemmas.Bool.Decides.{nat_tests}
use Rattle.ph_base.specs.declared.acquirer.Ruling.{Ruling}
use Rattle.ph_attempts.specs.declared.flights.Flight.{Flight}
use Rattle.ph_items.specs.declared.intents.CaptureMethod.{CaptureMethod}
use Rattle.ph_items.specs.declared.intents.IntentStatus.{IntentStatus}
use Rattle.ph_items.specs.declared.intents.IntentStatus.TheVariants as status
use Rattle.ph_doings.specs.Confirmations.{all_but_first, attempts_of_confirmation, confirmation_of}
use Rattle.ph_facts.specs.Touches.{Cause, Confirms, Authenticates}
use Rattle.ph_doings.specs.Doings.{Doing, Leaves, Puts, Edits, Begins, Resumes, Parks, Settles}
use Rattle.ph_doings.specs.Standings.{Live, Parked, NotBegun, Stands, is_challenged, standing_of}
use Rattle.ph_facts.specs.Statuses.{may_begin}
use Rattle.ph_doings.specs.Statuses.{status_of}
use Rattle.ph_doings.proofs.Newest.{last_of}
use Rattle.ph_doings.proofs.Tables.{authenticates_waiting}
use Rattle.ph_doings.proofs.Sound.{HasChains, HasNewestUnsettled, first_or_zero}

-- ---- lists

-- what holds of all holds of all that it leads to
pub all_kept : (test now : ℕ → Bool) → ((x : ℕ) → test x ≡ true → now x ≡ true) → (xs : List ℕ) → list_all test xs ≡ true
    → list_all now xs ≡ true
all_kept test now keeps [] all = refl
all_kept test now keeps (x ∷ xs) all = at (test x) (now x) (list_all test xs) (list_all now xs) (keeps x) (all_kept test now keeps xs) all
  where
    at : (a a' b b' : Bool) → (a ≡ true → a' ≡ true) → (b ≡ true → b' ≡ true) → (a && b) ≡ true → (a' && b') ≡ true
    at true a' true b' f g h = rw (f refl, g refl)
    at true a' false b' f g h = absurd (cc)
    at false a' b b' f g h = absurd (cc)

-- what holds of the first and of all others holds of all
pub all_with_first : (test : ℕ → Bool) (xs : List ℕ) → test (first_or_zero xs) ≡ true → list_all test (all_but_first xs) ≡ true
    → list_all test xs ≡ true
all_with_first test [] first others = refl
all_with_first test (x ∷ xs) first others = rw (first, others)

-- the attempts that were challenged in the past still are, after this doing
abbrev pub StillChallenged : List Doing → Doing → Type 0
StillChallenged past doing = (reference : ℕ) → is_challenged (standing_of past reference) ≡ true
    → is_challenged (standing_of (doing ∷ past) reference) ≡ true

still : (past : List Doing) (doing : Doing) → StillChallenged past doing → (references : List ℕ)
    → list_all (λ reference. is_challenged (standing_of past reference)) references ≡ true
    → list_all (λ reference. is_challenged (standing_of (doing ∷ past) reference)) references ≡ true
still past doing kept references all =
    all_kept (λ q. is_challenged (standing_of past q)) (λ q. is_challenged (standing_of (doing ∷ past) q)) kept references all

-- ---- each doing

pub chains_leaves : (past : List Doing) → HasChains past → HasChains (Leaves ∷ past)
chains_leaves past old = record {
  known = λ i. omega (arith, old.known i);
  apart = old.apart;
  newest = old.newest;
  confirmed = old.confirmed;
  begun = old.begun;
  waits = old.waits;
  challenged = old.challenged;
}

pub chains_puts : (past : List Doing) (intent : ℕ) (put : IntentStatus) → HasChains past → (put ≡ status.Processing → ⊥)
    → (put ≡ status.RequiresAction → ⊥) → HasChains (Puts intent put ∷ past)
chains_puts past intent put old runs calm = record {
  known = λ i. omega (arith, old.known i);
  apart = old.apart;
  newest = old.newest;
  confirmed = λ i h. grind (arith, nat_tests, calm, old.confirmed i);
  begun = λ i h. grind (arith, nat_tests, runs, old.begun i);
  waits = λ i h. grind (arith, nat_tests, calm, old.waits i);
  challenged = old.challenged;
}

pub chains_edits : (past : List Doing) (intent : ℕ) (put : IntentStatus) → HasChains past → status_of past intent ≡ Some put
    → HasChains (Edits intent put ∷ past)
chains_edits past intent put old is = record {
  known = λ i. omega (arith, old.known i);
  apart = old.apart;
  newest = old.newest;
  confirmed = λ i h. grind (arith, nat_tests, old.confirmed i, old.confirmed intent);
  begun = λ i h. grind (arith, nat_tests, old.begun i, old.begun intent);
  waits = λ i h. grind (arith, nat_tests, old.waits i, old.waits intent);
  challenged = old.challenged;
}

chains_confirms : (past : List Doing) (intent : ℕ) (flight : Flight) → HasChains past
    → standing_of past flight.order.reference ≡ NotBegun → HasChains (Begins Confirms intent flight ∷ past)
chains_confirms past intent flight old new = record {
  known = λ i. grind (arith, nat_tests, old.known i);
  apart = λ i j h k. grind (arith, nat_tests, old.known i, old.known j, old.apart i j);
  newest = λ i h. grind (arith, nat_tests, old.known i, old.newest i);
  confirmed = λ i h. grind (arith, nat_tests, old.confirmed i);
  begun = λ i h. grind (arith, nat_tests, old.begun i);
  waits = λ i h. grind (arith, nat_tests, old.waits i, new);
  challenged = λ c. cond_both (c == suc (length past)) (flight.order.reference ∷ []) (attempts_of_confirmation past c)
      (λ xs. list_all (λ q. is_challenged (standing_of (Begins Confirms intent flight ∷ past) q)) (all_but_first xs) ≡ true)
      (λ _. refl)
      (λ _. still past (Begins Confirms intent flight) (λ q h. grind (arith, nat_tests, new)) (all_but_first (attempts_of_confirmation past c)) (old.challenged c));
}

chains_authenticates : (past : List Doing) (intent : ℕ) (flight : Flight) → HasChains past
    → standing_of past flight.order.reference ≡ NotBegun → status_of past intent ≡ Some status.RequiresAction
    → HasChains (Begins Authenticates intent flight ∷ past)
chains_authenticates past intent flight old new need = record {
  known = λ i. omega (arith, old.known i);
  apart = old.apart;
  newest = λ i h. grind (arith, nat_tests, old.newest i, old.apart intent i);
  confirmed = λ i h. grind (arith, nat_tests, old.confirmed i);
  begun = λ i h. grind (arith, nat_tests, old.begun i, old.confirmed intent);
  waits = λ i h. grind (arith, nat_tests, old.waits i, new);
  challenged = λ c. cond_both (c == confirmation_of past intent) (flight.order.reference ∷ attempts_of_confirmation past c) (attempts_of_confirmation past c)
      (λ xs. list_all (λ q. is_challenged (standing_of (Begins Authenticates intent flight ∷ past) q)) (all_but_first xs) ≡ true)
      (λ is. kept (attempts_of_confirmation past c) (whole c (eqb-true c (confirmation_of past intent) is)))
      (λ _. kept (all_but_first (attempts_of_confirmation past c)) (old.challenged c));
}
  where
    kept : (xs : List ℕ) → list_all (λ q. is_challenged (standing_of past q)) xs ≡ true
        → list_all (λ q. is_challenged (standing_of (Begins Authenticates intent flight ∷ past) q)) xs ≡ true
    kept xs all = still past (Begins Authenticates intent flight) (λ q h. grind (arith, nat_tests, new)) xs all

    whole : (c : ℕ) → c ≡ confirmation_of past intent → list_all (λ q. is_challenged (standing_of past q)) (attempts_of_confirmation past c) ≡ true
    whole c same =
        let first : first_or_zero (attempts_of_confirmation past c) ≡ last_of past intent = rw same (old.newest intent (old.confirmed intent need)) in
        all_with_first (λ q. is_challenged (standing_of past q)) (attempts_of_confirmation past c) (rw first (old.waits intent need)) (old.challenged c)

pub chains_begins : (past : List Doing) (cause : Cause) (intent : ℕ) (flight : Flight) → HasChains past
    → standing_of past flight.order.reference ≡ NotBegun → may_begin cause (status_of past intent) ≡ true
    → HasChains (Begins cause intent flight ∷ past)
chains_begins past Confirms intent flight old new may = chains_confirms past intent flight old new
chains_begins past Authenticates intent flight old new may =
    chains_authenticates past intent flight old new (authenticates_waiting (status_of past intent) may)

pub chains_resumes : (past : List Doing) (intent : ℕ) (flight : Flight) → HasChains past
    → standing_of past flight.order.reference ≡ Stands intent flight.order Parked → HasChains (Resumes intent flight ∷ past)
chains_resumes past intent flight old is = record {
  known = λ i. omega (arith, old.known i);
  apart = old.apart;
  newest = old.newest;
  confirmed = old.confirmed;
  begun = old.begun;
  waits = λ i h. grind (arith, nat_tests, is, old.waits i);
  challenged = λ c. still past (Resumes intent flight) (λ q h. grind (arith, nat_tests, is)) (all_but_first (attempts_of_confirmation past c)) (old.challenged c);
}

pub chains_parks : (past : List Doing) (intent : ℕ) (flight : Flight) → HasChains past
    → standing_of past flight.order.reference ≡ Stands intent flight.order Live → HasChains (Parks intent flight ∷ past)
chains_parks past intent flight old is = record {
  known = λ i. omega (arith, old.known i);
  apart = old.apart;
  newest = old.newest;
  confirmed = old.confirmed;
  begun = old.begun;
  waits = λ i h. grind (arith, nat_tests, is, old.waits i);
  challenged = λ c. still past (Parks intent flight) (λ q h. grind (arith, nat_tests, is)) (all_but_first (attempts_of_confirmation past c)) (old.challenged c);
}

pub chains_settles : (past : List Doing) (intent : ℕ) (flight : Flight) (capture : CaptureMethod) (ruling : Ruling) → HasNewestUnsettled past
    → HasChains past → standing_of past flight.order.reference ≡ Stands intent flight.order Live → HasChains (Settles intent flight capture ruling ∷ past)
chains_settles past intent flight capture ruling one old is = record {
  known = λ i. omega (arith, old.known i);
  apart = old.apart;
  newest = old.newest;
  confirmed = λ i h. grind (arith, nat_tests, is, one.processing intent flight.order.reference, old.confirmed i, old.begun intent);
  begun = λ i h. grind (arith, nat_tests, old.begun i);
  waits = λ i h. grind (arith, nat_tests, is, one.processing intent flight.order.reference, one.newest intent flight.order.reference, old.waits i);
  challenged = λ c. still past (Settles intent flight capture ruling) (λ q h. grind (arith, nat_tests, is)) (all_but_first (attempts_of_confirmation past c)) (old.challenged c);
}
