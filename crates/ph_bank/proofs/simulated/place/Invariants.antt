use Rattle.std.proofs.Common.{◌≡◌, ℕ, List, ◌++◌, drop, take}
use Rattle.ph_bank.specs.declared.simulated.Remembered.{Remembered}
use Rattle.ph_bank.specs.Simulation.{count_of, counted, is_remembered}
use Rattle.ph_bank.proofs.simulated.place.Given as goal

-- the reference stands at none of the places so far
pub record Seeking (memory : List Remembered) (reference at : ℕ) : Type 0 where
  pub known : is_remembered (drop at memory) reference ≡ is_remembered memory reference
  pub asks : count_of (drop at memory) reference ≡ count_of memory reference
  pub counts : take at memory ++ counted (drop at memory) reference ≡ counted memory reference

abbrev pub invariant-loop-at : goal.invariant-loop-at
invariant-loop-at l = Seeking l.memory l.reference l.at
