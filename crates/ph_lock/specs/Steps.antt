-- The steps of the lock. Each is one atomic step on one word, and changes the view of the seat that steps (join: of two).
--
--   step  | on the table                  | the view that changes
--   draw  | fetch_add on ticket           | the pass has the ticket that was found
--   turn  | load of serving               | where it is the pass's ticket, the pass has the turn and the object, and notes the object's history
--   leave | fetch_add on serving          | the front becomes the object's history, mine the caller's entries there; turn, ticket and object are given back
--   split | load of ticket                | a new seat has the same front, no caller and an empty mine; the old one stays
--   join  | load of ticket                | one seat has the longer front and remembers both, the other is spent
--   tell  | load of serving, after a join | what the seat remembers begins its front, and is forgotten
--   name  | compare_exchange on callers   | where the word is the one expected, the seat, which had no caller, has it for its caller
--   shut  | load of serving, in the turn  | the object is given back and the turn is kept, so that nobody acts any more
--
-- A leave with an entry and a leave without one are one step: whether there is an entry is in `IsHistoryOf`.
use Rattle.std.specs.Prelude.{◌≡◌, ◌≢◌, ℕ, ◌%◌, List, [], ◌∷◌, ◌++◌, ◌⊎◌, Option, Some, None}
use Rattle.atomic_table.specs.Table.{Me, Step, rest}
use Rattle.ph_lock.specs.declared.knowledge.Stage.{Stage}
use Rattle.ph_lock.specs.declared.knowledge.Stage.TheVariants.{Idle, Waits, Holds, Closes, Spent}
use Rattle.ph_lock.specs.declared.knowledge.Knowledge.{Knowledge}
use Rattle.ph_lock.specs.Histories.{StartsWith, StartsWithEach, longer, own_entries}

-- what a seat knows, and the slots that it holds
abbrev pub Seated : Type 0 → Type 0 → Type 0 → Type 0
Seated O E B = Me (Option O) (Knowledge E B)

module _ {E B : Type 0} where
  -- the same seat at another stage
  abbrev pub with_stage : Knowledge E B → Stage E → Knowledge E B
  with_stage v stage = record { base = v.base; caller = v.caller; front = v.front; mine = v.mine; remembered = v.remembered; stage = stage }

  -- the seat of this caller as it leaves, with the object's history for its front
  abbrev pub left_with : (E → ℕ) → Knowledge E B → ℕ → List E → Knowledge E B
  left_with by v caller history = record { base = v.base; caller = v.caller; front = history; mine = own_entries by caller 1 history; remembered = []; stage = Idle }

  -- a new seat, with the same front and no caller yet
  abbrev pub fresh_of : Knowledge E B → Knowledge E B
  fresh_of v = record { base = v.base; caller = None; front = v.front; mine = []; remembered = []; stage = Idle }

  -- the seat that takes in another
  abbrev pub both_of : Knowledge E B → Knowledge E B → Knowledge E B
  both_of v w = record { base = v.base; caller = v.caller; front = longer v.front w.front; mine = v.mine; remembered = v.front ∷ w.front ∷ []; stage = v.stage }

  -- the seat that was taken in
  abbrev pub spent_of : B → Knowledge E B
  spent_of b = record { base = b; caller = None; front = []; mine = []; remembered = []; stage = Spent }

  -- the seat that remembers no other front
  abbrev pub forgetting : Knowledge E B → Knowledge E B
  forgetting v = record { base = v.base; caller = v.caller; front = v.front; mine = v.mine; remembered = []; stage = v.stage }

  -- the seat under a name
  abbrev pub named_as : Knowledge E B → ℕ → Knowledge E B
  named_as v name = record { base = v.base; caller = Some name; front = v.front; mine = v.mine; remembered = v.remembered; stage = v.stage }

  -- draw: the seat has the ticket whose number modulo 2 ^ 64 is found
  abbrev pub Draws : {O : Type 0} → Step (Option O) → Seated O E B → ℕ → Seated O E B → Type 0
  Draws step old found new = (ticket : ℕ) × (found ≡ ticket % 18446744073709551616) × (new ≡ (with_stage old.0 (Waits ticket), old.1))

  -- tell: what the seat remembers begins its front, which is lawful and has no entry of its caller beside mine
  pub record IsTold (by : E → ℕ) (lawful : B → List E → Type 0) (v : Knowledge E B) : Type 0 where
    pub remembered : StartsWithEach v.front v.remembered
    pub legal : lawful v.base v.front
    pub own : (name : ℕ) → v.caller ≡ Some name → own_entries by name 1 v.front ≡ v.mine

  abbrev pub Tells : {O : Type 0} → (E → ℕ) → (B → List E → Type 0) → Step (Option O) → Seated O E B → ℕ → Seated O E B → Type 0
  Tells by lawful step old found new = IsTold by lawful old.0 × (new ≡ (forgetting old.0, old.1))

  -- name: the number found is the seat's caller, of whom its front has no entry, where it is the number expected; else nothing changes
  abbrev pub Takes : {O : Type 0} → (E → ℕ) → Step (Option O) → Seated O E B → ℕ → Seated O E B → Type 0
  Takes by step old found new =
      ((found ≡ step.first) → (new ≡ (named_as old.0 found, old.1)) × (own_entries by found 1 old.0.front ≡ []))
      × ((found ≢ step.first) → new ≡ old)

module _ {E : Type 0} where
  -- the history stayed, or it gained one entry, of this caller
  abbrev pub IsHistoryOf : (E → ℕ) → ℕ → List E → List E → Type 0
  IsHistoryOf by caller before after = (after ≡ before) ⊎ ((entry : E) × (by entry ≡ caller) × (after ≡ before ++ entry ∷ []))

module _ {O E B : Type 0} (base : O → B) (history : O → List E) (by : E → ℕ) (lawful : B → List E → Type 0) where
  -- what a seat knows of the object as its turn begins
  pub record Found (v : Knowledge E B) (object : O) : Type 0 where
    pub base_is : base object ≡ v.base
    pub legal : lawful v.base (history object)
    pub seen : StartsWith (history object) v.front
    pub own : (name : ℕ) → v.caller ≡ Some name → (own_entries by name 1 (history object) ≡ v.mine) × (own_entries by name 1 v.front ≡ v.mine)

  -- turn: where the seat's ticket is found, it has the turn and the object; else nothing changes
  abbrev pub Turns : Step (Option O) → Seated O E B → ℕ → Seated O E B → Type 0
  Turns step old found new = (ticket : ℕ) → old.0.stage ≡ Waits ticket → old.1 ≡ []
      → ((found ≡ ticket % 18446744073709551616) → (object : O) × (new ≡ (with_stage old.0 (Holds ticket (history object)), (0, Some object) ∷ [])) × Found old.0 object)
      × ((found ≢ ticket % 18446744073709551616) → new ≡ old)

  -- leave: the turn is given back, and the front is the history of the object that the seat had
  abbrev pub Leaves : Step (Option O) → Seated O E B → ℕ → Seated O E B → Type 0
  Leaves step old found new = (object : O) (name : ℕ) → old.1 ≡ (0, Some object) ∷ [] → old.0.caller ≡ Some name → new ≡ (left_with by old.0 name (history object), [])

module _ {O E B : Type 0} where
  -- shut: the object is given back, and the turn is kept
  abbrev pub Shuts : Step (Option O) → Seated O E B → ℕ → Seated O E B → Type 0
  Shuts step old found new = (ticket : ℕ) (noted : List E) → old.0.stage ≡ Holds ticket noted → new ≡ (with_stage old.0 (Closes ticket noted), rest old.1)
