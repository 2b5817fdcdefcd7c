-- The rule of the lock, which holds between any two steps.
-- Word 0 is the ticket to be drawn next, word 1 the ticket that is served, both modulo 2 ^ 64. Word 2 is the name for the next pass, above all names given.
use Rattle.std.specs.Prelude.{◌≡◌, ℕ, ◌%◌, ◌<◌, ◌≤◌, Bool, true, false, List, [], length, slice_index, Option, Some, None}
use mathlib.Core.Option.{some, Option as Maybe}
use lib.ListN.{get_elem?}
use Rattle.atomic_table.specs.Table.{State}
use Rattle.ph_lock.specs.declared.knowledge.Stage.{Stage}
use Rattle.ph_lock.specs.declared.knowledge.Stage.TheVariants.{Idle, Waits, Holds, Closes, Spent}
use Rattle.ph_lock.specs.declared.knowledge.Knowledge.{Knowledge}
use Rattle.ph_lock.specs.Histories.{StartsWith, StartsWithEach, AllBelow, own_entries}

-- the seat has a name
abbrev pub IsNamed : Option ℕ → Type 0
IsNamed caller = (name : ℕ) × (caller ≡ Some name)

module _ {E : Type 0} where
  -- the ticket in hand
  abbrev pub ticket_of : Stage E → Option ℕ
  ticket_of Idle = None
  ticket_of (Waits t) = Some t
  ticket_of (Holds t h) = Some t
  ticket_of (Closes t h) = Some t
  ticket_of Spent = None

  -- the history that a seat with the turn has noted
  abbrev pub noted_of : Stage E → Option (List E)
  noted_of Idle = None
  noted_of (Waits t) = None
  noted_of (Holds t h) = Some h
  noted_of (Closes t h) = Some h
  noted_of Spent = None

  -- the seat was not taken in by another
  abbrev pub IsLive : Stage E → Type 0
  IsLive Idle = Unit {0}
  IsLive (Waits t) = Unit {0}
  IsLive (Holds t h) = Unit {0}
  IsLive (Closes t h) = Unit {0}
  IsLive Spent = ⊥

module _ {E B : Type 0} where
  -- a fact of each live seat
  abbrev pub Each : List (Knowledge E B) → (ℕ → Knowledge E B → Type 0) → Type 0
  Each views P = (seat : ℕ) (view : Knowledge E B) → get_elem? views seat ≡ some view → IsLive view.stage → P seat view

  -- tickets in hand differ, run from the one that is served on, and are as many as were drawn and not yet served
  pub record Tickets (views : List (Knowledge E B)) (served drawn : ℕ) (holder : ℕ → ℕ) : Type 0 where
    pub order : served ≤ drawn
    pub in_hand : Each views (λ seat view. (t : ℕ) → ticket_of view.stage ≡ Some t → (served ≤ t) × (t < drawn) × (holder t ≡ seat))
    pub held : (t : ℕ) → served ≤ t → t < drawn → (view : Knowledge E B) × (get_elem? views (holder t) ≡ some view) × (ticket_of view.stage ≡ Some t)

  -- the callers of seats differ; all entries of a seat's caller stand in its own front, and mine is the list of these; a seat without a caller has no ticket and an empty mine
  pub record Callers (by : E → ℕ) (whole : List E) (views : List (Knowledge E B)) : Type 0 where
    pub apart : (i j : ℕ) (v w : Knowledge E B) (name : ℕ) → get_elem? views i ≡ some v → get_elem? views j ≡ some w → v.caller ≡ Some name → w.caller ≡ Some name → i ≡ j
    pub own : Each views (λ _ view. (name : ℕ) → view.caller ≡ Some name → (own_entries by name 1 whole ≡ view.mine) × (own_entries by name 1 view.front ≡ view.mine))
    pub no_mine : Each views (λ _ view. view.caller ≡ None → view.mine ≡ [])
    pub no_ticket : Each views (λ _ view. (t : ℕ) → ticket_of view.stage ≡ Some t → IsNamed view.caller)

  -- the word callers is at most 2 ^ 62, and above the caller of every seat and every entry
  pub record Names (by : E → ℕ) (whole : List E) (views : List (Knowledge E B)) (next : ℕ) : Type 0 where
    pub few : next ≤ 4611686018427387904
    pub seats : (seat : ℕ) (view : Knowledge E B) (name : ℕ) → get_elem? views seat ≡ some view → view.caller ≡ Some name → name < next
    pub entries : AllBelow by next whole

module _ {O E B : Type 0} (base : O → B) (history : O → List E) (by : E → ℕ) (lawful : B → List E → Type 0) where
  -- the object is at home, has this base, and this is its history
  abbrev pub AtHome : B → List E → List (Maybe (Option O)) → Type 0
  AtHome b whole homes = (object : O) × (get_elem? homes 0 ≡ some (some (Some object))) × (base object ≡ b) × (history object ≡ whole)

  -- where the object is: at home, with the longest front for its history; or out with the seat whose ticket is served. What a seat with the turn has noted is the longest front
  pub record Object (s : State (Option O) (Knowledge E B)) (b : B) (whole : List E) (turn : ℕ) (out : Bool) : Type 0 where
    pub longest : (seat : ℕ) × (view : Knowledge E B) × (get_elem? s.views seat ≡ some view) × IsLive view.stage × (view.front ≡ whole)
    pub home : out ≡ false → AtHome b whole s.homes
    pub away : out ≡ true → (view : Knowledge E B) × (t : ℕ) × (h : List E) × (get_elem? s.views turn ≡ some view) × (view.stage ≡ Holds t h)
    pub noted : Each s.views (λ _ view. (h : List E) → noted_of view.stage ≡ Some h → h ≡ whole)

  -- what holds between any two steps of a lock whose object has the base b
  pub record Rule (b : B) (s : State (Option O) (Knowledge E B)) : Type 0 where
    -- how many tickets were drawn, which of them is served, which seat drew each, the longest front, and whether the object is out
    pub drawn : ℕ
    pub served : ℕ
    pub holder : ℕ → ℕ
    pub whole : List E
    pub out : Bool
    -- the three words
    pub three_words : length s.words ≡ 3
    pub ticket_word : slice_index s.words 0 ≡ drawn % 18446744073709551616
    pub serving_word : slice_index s.words 1 ≡ served % 18446744073709551616
    -- 1: tickets in hand differ, run from serving on, and are as many as ticket less serving
    pub tickets : Tickets s.views served drawn holder
    -- 2: the ticket of a pass that has the turn is the one served, so at most one has the turn
    pub one_turn : Each s.views (λ _ view. (h : List E) → noted_of view.stage ≡ Some h → ticket_of view.stage ≡ Some served)
    -- 3: the longest front begins with each front, so of any two one is a prefix of the other, and each is lawful
    pub one_history : lawful b whole × Each s.views (λ _ view. StartsWith whole view.front × lawful b view.front)
    -- 4: the object is in the slot or out with the pass that has the turn, and the longest front is its history
    pub object : Object s b whole (holder served) out
    -- 5: callers differ, and each pass knows all its caller's entries
    pub callers : Callers by whole s.views
    -- 6: the word callers is above all callers
    pub names : Names by whole s.views (slice_index s.words 2)
    -- 7: each front that a pass remembers is a prefix of its own front
    pub remembered : Each s.views (λ _ view. StartsWithEach view.front view.remembered)
    -- 8: all passes have the base of the object
    pub one_base : Each s.views (λ _ view. view.base ≡ b)
