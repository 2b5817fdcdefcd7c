-- What contracts see of passes and notes, and what an act does to a pass.
use Rattle.std.specs.Prelude.{◌≡◌, ℕ, ◌+◌, List, [], ◌∷◌, ◌++◌, length}
use Rattle.atomic_table.specs.Seated.{TableId}
use Rattle.ph_lock.specs.Histories.{StartsWith, own_entries}

-- a pass: its lock, the base of the lock's object, its caller, the history as it knows it, and the caller's entries there with their places, from 1 on
pub record Shown (Entry Base : Type 0) : Type 0 where
  pub lock : TableId
  pub base : Base
  pub caller : ℕ
  pub front : List Entry
  pub mine : List (ℕ × Entry)

-- a note: its lock, the base of the lock's object, and the front of the pass that it was taken from
pub record Noted (Entry Base : Type 0) : Type 0 where
  pub lock : TableId
  pub base : Base
  pub front : List Entry

module _ {Entry Base : Type 0} where
  -- what is true of every pass: its front is lawful under its base, and mine is all that its caller has there
  pub record IsPass (by : Entry → ℕ) (lawful : Base → List Entry → Type 0) (pass : Shown Entry Base) : Type 0 where
    pub legal : lawful pass.base pass.front
    pub own : own_entries by pass.caller 1 pass.front ≡ pass.mine

  -- lock, base and caller of the pass are as they were
  pub record SamePass (old new : Shown Entry Base) : Type 0 where
    pub lock : new.lock ≡ old.lock
    pub base : new.base ≡ old.base
    pub caller : new.caller ≡ old.caller

  -- nothing was entered through the pass: its front begins with the old one, and mine stayed
  pub record OnlySaw (old new : Shown Entry Base) : Type 0 where
    pub front : StartsWith new.front old.front
    pub mine : new.mine ≡ old.mine

-- an act was entered through the pass: its front begins with the old one and ends with the act's entry, which mine gained, and the answer is the object's answer there
pub record Entered {Entry Base Deed Act Answer : Type 0} (by : Entry → ℕ) (deed : Entry → Deed) (deed_of : Act → Deed) (answers : Base → List Entry → Entry → Answer → Type 0)
    (full : Base → List Entry → Act → Type 0) (old new : Shown Entry Base) (act : Act) (answer : Answer) : Type 0 where
  -- the history as the act found it, and what it added
  pub before : List Entry
  pub entry : Entry
  pub seen : StartsWith before old.front
  pub of_caller : by entry ≡ old.caller
  pub of_act : deed entry ≡ deed_of act
  pub front : new.front ≡ before ++ entry ∷ []
  pub mine : new.mine ≡ old.mine ++ (length before + 1, entry) ∷ []
  pub answered : answers old.base before entry answer
  pub room : ¬ (full old.base before act)
