-- The laws of key records, over every list of turns each of which may come after those before it.
use Rattle.std.specs.Prelude.{◌≡◌, ℕ, suc, ◌+◌, ◌<◌, Bool, true, List, ◌∷◌, ◌++◌, length, Some, None}
use Rattle.ph_doings.specs.Confirmations.{begun_by}
use Rattle.ph_doings.specs.Records.{AreLawful, Saved, Turn, a_day, is_over, last_opened, record_of, result_of, time_of}

-- the turn opened a record after the past: it asked this under a key of which no record was found
pub record OpensRecord {A : Type 0} (of like : A → Bool) (opened : ℕ) (past : List (Turn A)) (turn : Turn A) (asked : A) : Type 0 where
  pub asked_is : turn.asked ≡ Some asked
  pub key : of asked ≡ true
  pub fresh : is_over (last_opened of like opened past) (time_of opened past) ≡ true

-- a call that asks the same under the same key within a day finds the result of the call that opened the record
abbrev pub RepeatFinds : (A : Type 0) → Type 0
RepeatFinds A = (same like : A → A → Bool) (opened : ℕ) (older later : List (Turn A)) (opener : Turn A) (first asked : A)
    → AreLawful same like opened (later ++ opener ∷ older)
    → OpensRecord (same asked) (like asked) opened older opener first → like asked first ≡ true
    → time_of opened (later ++ opener ∷ older) < time_of opened older + a_day
    → record_of (same asked) (like asked) opened (later ++ opener ∷ older)
    ≡ result_of (later ++ opener ∷ older) (suc (length older))

-- a result that is saved never changes
abbrev pub SavedStays : (A : Type 0) → Type 0
SavedStays A = (same like : A → A → Bool) (opened : ℕ) (older later : List (Turn A)) (place saved : ℕ)
    → AreLawful same like opened (later ++ older) → result_of older place ≡ Saved saved → result_of (later ++ older) place ≡ Saved saved

-- within a day of the call that opened a record no call under its key begins an attempt
abbrev pub KeyAddsNone : (A : Type 0) → Type 0
KeyAddsNone A = (same like : A → A → Bool) (opened : ℕ) (older later : List (Turn A)) (opener turn : Turn A) (first asked : A)
    → AreLawful same like opened (turn ∷ later ++ opener ∷ older)
    → OpensRecord (same asked) (like asked) opened older opener first → turn.asked ≡ Some asked
    → time_of opened (later ++ opener ∷ older) < time_of opened older + a_day
    → begun_by turn.doing ≡ None
