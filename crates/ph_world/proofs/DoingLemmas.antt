-- What one doing more leaves of attempts: their orders, and that they are settled with the decisions.
use Rattle.std.proofs.Common.{◌≡◌, ℕ, ◌==◌, Bool, true, false, cond, List, ◌∷◌, Some, refl, sym, ap, ◌∙◌, inl, inr}
use Rattle.std.proofs.lemmas.Bool.{eqb-true}
use Rattle.ph_base.specs.declared.acquirer.Ruling.{Ruling}
use Rattle.ph_attempts.specs.Attempts.{Step}
use Rattle.ph_attempts.specs.Attempts as step
use Rattle.ph_attempts.specs.declared.flights.Flight.{Flight}
use Rattle.ph_bank.specs.declared.memory.Decision.{Decision}
use Rattle.ph_bank.specs.Scripts.{ruling_of}
use Rattle.ph_doings.specs.Doings.{Doing, Leaves, Puts, Edits, Begins, Resumes, Parks, Settles}
use Rattle.ph_doings.specs.Kept.{step_of}
use Rattle.ph_doings.specs.Lawful.{MayDo}
use Rattle.ph_doings.specs.Standings.{State, Live, Parked, Settled, Standing, NotBegun, Stands, standing_of}
use Rattle.ph_items.specs.declared.orders.Order.{Order}
use Rattle.ph_book.specs.Replies.{Said, Replies, Waits, Silence}
use Rattle.ph_book.proofs.StartLemmas.{StepsAs}
use Rattle.ph_world.specs.Laws.{HasBegun}

-- ---- orders

-- an attempt that stands keeps its order where one of its runs moves it on
moves_on : (past : List Doing) (order : Order) (flight : Flight) (intent : ℕ) (had now : State) (doing : Doing)
    → standing_of (doing ∷ past) order.reference
    ≡ cond (order.reference == flight.order.reference) (Stands intent flight.order now) (standing_of past order.reference)
    → standing_of past flight.order.reference ≡ Stands intent flight.order had → HasBegun past order → HasBegun (doing ∷ past) order
moves_on past order flight intent had now doing is stood old = at (order.reference == flight.order.reference) refl
  where
    at : (b : Bool) → (order.reference == flight.order.reference) ≡ b → HasBegun (doing ∷ past) order
    at true e =
        let same : order.reference ≡ flight.order.reference = eqb-true order.reference flight.order.reference e in
        let both : Stands old.intent order old.state ≡ Stands intent flight.order had = sym old.standing ∙ ap (standing_of past) same ∙ stood in
        let its : order ≡ flight.order = cc in
        record {
          intent = intent;
          state = now;
          standing = is ∙ ap (λ b. cond b (Stands intent flight.order now) (standing_of past order.reference)) e
              ∙ ap (λ (o : Order). Stands intent o now) (sym its);
        }
    at false e = record {
      intent = old.intent;
      state = old.state;
      standing = is ∙ ap (λ b. cond b (Stands intent flight.order now) (standing_of past order.reference)) e ∙ old.standing;
    }

-- an attempt that begins is another
begins_other : (past : List Doing) (order : Order) (flight : Flight) (intent : ℕ) (doing : Doing)
    → standing_of (doing ∷ past) order.reference
    ≡ cond (order.reference == flight.order.reference) (Stands intent flight.order Live) (standing_of past order.reference)
    → standing_of past flight.order.reference ≡ NotBegun → HasBegun past order → HasBegun (doing ∷ past) order
begins_other past order flight intent doing is new old = at (order.reference == flight.order.reference) refl
  where
    at : (b : Bool) → (order.reference == flight.order.reference) ≡ b → HasBegun (doing ∷ past) order
    at true e =
        let same : order.reference ≡ flight.order.reference = eqb-true order.reference flight.order.reference e in
        let clash : Stands old.intent order old.state ≡ NotBegun = sym old.standing ∙ ap (standing_of past) same ∙ new in
        absurd (cc)
    at false e = record {
      intent = old.intent;
      state = old.state;
      standing = is ∙ ap (λ b. cond b (Stands intent flight.order Live) (standing_of past order.reference)) e ∙ old.standing;
    }

-- what an attempt began with stays
pub begun_stays : (past : List Doing) (doing : Doing) (order : Order) → MayDo past doing → HasBegun past order → HasBegun (doing ∷ past) order
begun_stays past Leaves order may old = record { intent = old.intent; state = old.state; standing = old.standing }
begun_stays past (Puts intent status) order may old = record { intent = old.intent; state = old.state; standing = old.standing }
begun_stays past (Edits intent status) order may old = record { intent = old.intent; state = old.state; standing = old.standing }
begun_stays past (Begins cause intent flight) order may old =
    begins_other past order flight intent (Begins cause intent flight) refl may.1 old
begun_stays past (Resumes intent flight) order may old =
    moves_on past order flight intent Parked Live (Resumes intent flight) refl may.1 old
begun_stays past (Parks intent flight) order may old =
    moves_on past order flight intent Live Parked (Parks intent flight) refl may.1 old
begun_stays past (Settles intent flight capture ruling) order may old =
    moves_on past order flight intent Live (Settled ruling) (Settles intent flight capture ruling) refl may.1 old

-- ---- rulings

-- each attempt that is settled is settled with its decision
abbrev pub AreDecided : List Doing → List Decision → Type 0
AreDecided past decisions = (reference intent : ℕ) (order : Order) (given : Ruling) → standing_of past reference ≡ Stands intent order (Settled given)
    → ruling_of decisions reference ≡ Some given

-- a doing that settles an attempt does so with its decision
abbrev pub DoesDecided : List Decision → Doing → Type 0
DoesDecided decisions Leaves = Unit {0}
DoesDecided decisions (Puts intent status) = Unit {0}
DoesDecided decisions (Edits intent status) = Unit {0}
DoesDecided decisions (Begins cause intent flight) = Unit {0}
DoesDecided decisions (Resumes intent flight) = Unit {0}
DoesDecided decisions (Parks intent flight) = Unit {0}
DoesDecided decisions (Settles intent flight capture ruling) = ruling_of decisions flight.order.reference ≡ Some ruling

-- an attempt that is live or parked now isn't settled, and each other is as it was
open_decided : (past : List Doing) (decisions : List Decision) (flight : Flight) (of : ℕ) (now : Standing) (doing : Doing)
    → ((q : ℕ) → standing_of (doing ∷ past) q ≡ cond (q == flight.order.reference) now (standing_of past q))
    → ((intent : ℕ) (order : Order) (given : Ruling) → now ≡ Stands intent order (Settled given) → ⊥)
    → AreDecided past decisions → AreDecided (doing ∷ past) decisions
open_decided past decisions flight of now doing is open_ old reference intent order given h = at (reference == flight.order.reference) refl
  where
    at : (b : Bool) → (reference == flight.order.reference) ≡ b → ruling_of decisions reference ≡ Some given
    at true e =
        absurd (open_ intent order given
        (ap (λ b. cond b now (standing_of past reference)) (sym e) ∙ sym (is reference) ∙ h))
    at false e =
        old reference intent order given
        (ap (λ b. cond b now (standing_of past reference)) (sym e) ∙ sym (is reference) ∙ h)

settled_decided : (past : List Doing) (decisions : List Decision) (flight : Flight) (of : ℕ) (ruling : Ruling) (doing : Doing)
    → ((q : ℕ) → standing_of (doing ∷ past) q ≡ cond (q == flight.order.reference) (Stands of flight.order (Settled ruling)) (standing_of past q))
    → ruling_of decisions flight.order.reference ≡ Some ruling → AreDecided past decisions → AreDecided (doing ∷ past) decisions
settled_decided past decisions flight of ruling doing is decided old reference intent order given h = at (reference == flight.order.reference) refl
  where
    at : (b : Bool) → (reference == flight.order.reference) ≡ b → ruling_of decisions reference ≡ Some given
    at true e =
        let both : Stands of flight.order (Settled ruling) ≡ Stands intent order (Settled given) =
        ap (λ b. cond b (Stands of flight.order (Settled ruling)) (standing_of past reference)) (sym e) ∙ sym (is reference) ∙ h in
        let its : ruling ≡ given = cc in
        ap (ruling_of decisions) (eqb-true reference flight.order.reference e) ∙ decided ∙ ap Some its
    at false e =
        old reference intent order given
        (ap (λ b. cond b (Stands of flight.order (Settled ruling)) (standing_of past reference)) (sym e) ∙ sym (is reference) ∙ h)

pub decided_stays : (past : List Doing) (decisions : List Decision) (doing : Doing) → DoesDecided decisions doing → AreDecided past decisions
    → AreDecided (doing ∷ past) decisions
decided_stays past decisions Leaves does old = old
decided_stays past decisions (Puts intent status) does old = old
decided_stays past decisions (Edits intent status) does old = old
decided_stays past decisions (Begins cause intent flight) does old =
    open_decided past decisions flight intent (Stands intent flight.order Live) (Begins cause intent flight) (λ q. refl) (λ i o g h. cc) old
decided_stays past decisions (Resumes intent flight) does old =
    open_decided past decisions flight intent (Stands intent flight.order Live) (Resumes intent flight) (λ q. refl) (λ i o g h. cc) old
decided_stays past decisions (Parks intent flight) does old =
    open_decided past decisions flight intent (Stands intent flight.order Parked) (Parks intent flight) (λ q. refl) (λ i o g h. cc) old
decided_stays past decisions (Settles intent flight capture ruling) does old =
    settled_decided past decisions flight intent ruling (Settles intent flight capture ruling) (λ q. refl) does old

-- a call, and the taking up of an attempt, settle none
not_settled : (flight : Flight) (caller place : ℕ) (said : Said) → StepsAs caller place said (Some (step.Settles flight)) → ⊥
not_settled flight caller place (Replies reply) e = cc
not_settled flight caller place (Waits order) (inl e) = cc
not_settled flight caller place (Waits order) (inr e) = cc
not_settled flight caller place Silence e = cc

pub calm : (decisions : List Decision) (caller place : ℕ) (said : Said) (doing : Doing) → StepsAs caller place said (step_of doing) → DoesDecided decisions doing
calm decisions caller place said Leaves steps = tt
calm decisions caller place said (Puts intent status) steps = tt
calm decisions caller place said (Edits intent status) steps = tt
calm decisions caller place said (Begins cause intent flight) steps = tt
calm decisions caller place said (Resumes intent flight) steps = tt
calm decisions caller place said (Parks intent flight) steps = tt
calm decisions caller place said (Settles intent flight capture ruling) steps = absurd (not_settled flight caller place said steps)
