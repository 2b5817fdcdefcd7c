-- What an act that is not refused adds to the history of an object.
use Rattle.std.specs.Prelude.{◌≡◌, ℕ, List, [], ◌∷◌, ◌++◌}

-- the history gained one entry, of this caller and of this act's deed, and the answer is the object's answer there
pub record Added {Entry Base Deed Act Answer : Type 0} (by : Entry → ℕ) (deed : Entry → Deed) (deed_of : Act → Deed) (answers : Base → List Entry → Entry → Answer → Type 0)
    (base : Base) (before after : List Entry) (caller : ℕ) (act : Act) (answer : Answer) : Type 0 where
  pub entry : Entry
  pub of_caller : by entry ≡ caller
  pub of_act : deed entry ≡ deed_of act
  pub at_end : after ≡ before ++ entry ∷ []
  pub answered : answers base before entry answer
