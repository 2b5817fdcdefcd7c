-- A repeated order is answered as at first.
use Rattle.std.specs.Prelude.{◌≡◌, ℕ, ◌+◌, ◌-◌, ◌<◌, ◌≤◌, ◌^◌, ◌==◌, ◌&&◌, Bool, true, false, not, nat_lt, List, [], ◌∷◌, length, Ok}
use Rattle.ph_base.specs.declared.acquirer.Method.{Method}
use Rattle.ph_base.specs.declared.acquirer.Ruling.{Ruling}
use Rattle.ph_bank.specs.declared.asking.Asked.TheVariants.{Ruled}
use Rattle.ph_bank.specs.declared.simulated.Remembered.{Remembered}
use Rattle.ph_bank.specs.Patiences.{counted_on}
use Rattle.ph_bank.specs.Simulation.{count_of, is_remembered, memory_after, simulated_answer}

-- two rulings on orders of one method are one; and once it ruled, it rules so at each ask that finds as many asks or more
-- remembered
pub record IsAnsweredAlike (method : Method) : Type 0 where
  pub one_ruling : (asks others : ℕ) (ruling other : Ruling) → simulated_answer method asks ≡ Ok (Ruled ruling)
      → simulated_answer method others ≡ Ok (Ruled other) → ruling ≡ other
  pub again : (asks more : ℕ) (ruling : Ruling) → asks ≤ more → simulated_answer method asks ≡ Ok (Ruled ruling)
      → simulated_answer method more ≡ Ok (Ruled ruling)

abbrev pub AnsweredAsAtFirst : Type 0
AnsweredAsAtFirst = (method : Method) → IsAnsweredAlike method

-- whether an ask of this reference drops the oldest
abbrev pub drops_oldest : List Remembered → ℕ → Bool
drops_oldest memory asked = not (is_remembered memory asked) && not (nat_lt (length memory) 32)

abbrev pub is_oldest : List Remembered → ℕ → Bool
is_oldest [] reference = false
is_oldest (first ∷ memory) reference = first.reference == reference

-- a reference that is remembered stays so, and the count of its asks doesn't fall, except where it is the oldest and an
-- ask drops that
abbrev pub SameWhileRemembered : Type 0
SameWhileRemembered = (memory : List Remembered) (asked reference : ℕ) → count_of memory reference < 2 ^ 64 → is_remembered memory reference ≡ true
    → (drops_oldest memory asked && is_oldest memory reference) ≡ false
    → (is_remembered (memory_after memory asked) reference ≡ true)
    × (count_of memory reference ≤ count_of (memory_after memory asked) reference)

-- a count below its type's end is the sum
abbrev pub CountsAreSums : Type 0
CountsAreSums = (count more : ℕ) → counted_on count more < 2 ^ 64 - 1 → counted_on count more ≡ count + more
