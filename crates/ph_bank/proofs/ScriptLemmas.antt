-- A link in memory meets the rules of a link.
use Rattle.std.proofs.Common.{◌≡◌, ℕ, ◌^◌, ◌<◌, ◌==◌, inr, Bool, true, false, List, [], ◌∷◌, ◌++◌, Option, Some, None, refl, arith}
use Rattle.ph_base.specs.declared.acquirer.Ruling.{Ruling}
use Rattle.ph_items.specs.declared.orders.Order.{Order}
use Rattle.ph_bank.specs.declared.memory.Cue.{Cue}
use Rattle.ph_bank.specs.declared.memory.Cue.TheVariants as cue
use Rattle.ph_bank.specs.declared.memory.Decision.{Decision}
use Rattle.ph_bank.specs.Links.{AsksOnce, decision_in}
use Rattle.ph_bank.specs.Scripts.{Script, and_decision, answer_by, answer_on, asked_on, decided_by, link_of, ruling_of}

decision_in-answer_by : (decision : Option Ruling) → decision ≡ decision_in (answer_by decision)
decision_in-answer_by None = refl
decision_in-answer_by (Some ruling) = refl

-- a decision stays where another is put behind it
ruling_of-more : (decisions more : List Decision) (reference : ℕ) (ruling : Ruling) → ruling_of decisions reference ≡ Some ruling
    → ruling_of (decisions ++ more) reference ≡ Some ruling
ruling_of-more [] more reference ruling h = cc
ruling_of-more (first ∷ decisions) more reference ruling h = at (ruling_of-more decisions more reference ruling) (first.reference == reference) refl
  where
    at : (ruling_of decisions reference ≡ Some ruling → ruling_of (decisions ++ more) reference ≡ Some ruling) → (test : Bool)
        → (first.reference == reference) ≡ test → ruling_of ((first ∷ decisions) ++ more) reference ≡ Some ruling
    at rest true e = rw e (rw e at h)
    at rest false e = rw e (rest (rw e at h))

decision_kept : (old : Option Ruling) (reference : ℕ) (ruling : Ruling) (decisions : List Decision) (other : ℕ) (kept : Ruling)
    → ruling_of decisions other ≡ Some kept → ruling_of (and_decision old reference ruling decisions) other ≡ Some kept
decision_kept (Some old) reference ruling decisions other kept h = h
decision_kept None reference ruling decisions other kept h = ruling_of-more decisions _ other kept h

pub asks_on : (cue : Cue) (script : Script) (order : Order) → script.faults < 2 ^ 64
    → AsksOnce (link_of script) (link_of (asked_on cue script order)) order (answer_on cue order.reference script.decisions)
asks_on cue.Wait script order small = record {
  asked = refl;
  decided = decision_in-answer_by (ruling_of script.decisions order.reference);
  kept = λ reference ruling h. h;
  faults = omega arith;
}
asks_on (cue.Decide ruling) script order small = record {
  asked = refl;
  decided = decision_in-answer_by (ruling_of (decided_by (cue.Decide ruling) order.reference script.decisions) order.reference);
  kept = λ other kept h. decision_kept (ruling_of script.decisions order.reference) order.reference ruling script.decisions other kept h;
  faults = omega arith;
}
asks_on cue.Fail script order small = record { asked = inr refl; decisions = refl; rose = omega arith; faults = omega arith }
