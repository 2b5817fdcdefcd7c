-- Each step of the lock keeps its rule, at a table of one slot.
use Rattle.std.proofs.Common.{◌≡◌, ℕ, ◌+◌, ◌%◌, ◌<◌, eqb, List, [], ◌∷◌, sym, subst, Option, Some, None}
use mathlib.Core.Option.{none, some}
use lib.ListN.{get_elem?}
use prog.Atomic.{either}
use Rattle.atomic_table.specs.Table.{Me, step, Allows, Splits, Joins, opening, Final, Seen}
use Rattle.ph_lock.specs.declared.knowledge.Stage.TheVariants.{Idle, Waits, Holds, Closes}
use Rattle.ph_lock.specs.declared.knowledge.Knowledge.{Knowledge}
use Rattle.ph_lock.specs.Histories.{AllBelow}
use Rattle.ph_lock.specs.Rule.{IsNamed, IsLive, Rule}
use Rattle.ph_lock.specs.Steps.{Draws, Turns, Leaves, Takes, Tells, Shuts, IsHistoryOf, fresh_of, both_of, spent_of}
use Rattle.ph_lock.proofs.BySeat.{by_seat, by_point, allows_of, splits_of, joins_of}
use Rattle.ph_lock.proofs.TurnSteps.{draws, turns, leaves}
use Rattle.ph_lock.proofs.SeatSteps.{splits, joins, tells, names, shuts, opens, closes}

module _ {O E B : Type 0} (base : O → B) (history : O → List E) (by : E → ℕ) (lawful : B → List E → Type 0) (b : B) where
  -- a new lock keeps the rule
  pub begins : (o : O) (top : ℕ) → lawful (base o) (history o) → top < 4611686018427387904 → AllBelow by top (history o)
      → Rule base history by lawful (base o) (opening (0 ∷ 0 ∷ (top + 1) ∷ []) (Some o ∷ []) (record { base = base o; caller = Some top; front = history o; mine = []; remembered = []; stage = Idle }))
  begins o top legal small all = by_point base history by lawful (base o) _ (opens base history by lawful o top legal small all)

  -- where a seat has closed the lock, the object is in its slot
  pub ends : (id : ℕ) (v : Knowledge E B) (t : ℕ) (h : List E) (ws : List ℕ) (xs : List (Option O)) → v.stage ≡ Closes t h → Final (Seen (Rule base history by lawful b) id v) ws xs
      → (o : O) × (get_elem? xs 0 ≡ some (Some o)) × (base o ≡ v.base) × (history o ≡ h)
  ends id v t h ws xs closed f = closes base history by lawful b id v t h ws xs closed (f.0, (by_seat base history by lawful b f.0 f.1.0, f.1.1), f.2, f.3, f.4)

  pub split : (id : ℕ) (v : Knowledge E B) → IsLive v.stage → Splits (Rule base history by lawful b) id v v (fresh_of v)
  split id v lives = splits_of base history by lawful b id v v (fresh_of v) (splits base history by lawful b id v lives)

  pub join : (blank : B) (id : ℕ) (v : Knowledge E B) (other : ℕ) (w : Knowledge E B) → v.stage ≡ Idle → w.stage ≡ Idle → Joins (Rule base history by lawful b) id v other w (both_of v w) (spent_of blank)
  join blank id v other w idle idle' = joins_of base history by lawful b id v other w (both_of v w) (spent_of blank) (joins base history by lawful b blank id v other w idle idle')

  module _ (slots : ℕ) (one : slots ≡ 1) (id : ℕ) (m : Me (Option O) (Knowledge E B)) where
    pub draw : m.0.stage ≡ Idle → IsNamed m.0.caller → Allows (Rule base history by lawful b) slots id m 0 (λ n. (n + 1) % 18446744073709551616) (Draws (step slots 0 1 0 none) m)
    draw idle named = subst (λ n. Allows (Rule base history by lawful b) n id m 0 (λ n. (n + 1) % 18446744073709551616) (Draws (step n 0 1 0 none) m)) (sym one)
        (allows_of base history by lawful b 1 id m 0 (λ n. (n + 1) % 18446744073709551616) (Draws (step 1 0 1 0 none) m) (draws base history by lawful b id m idle named))

    pub turn : (t : ℕ) → m.0.stage ≡ Waits t → m.1 ≡ [] → Allows (Rule base history by lawful b) slots id m 1 (λ n. n) (Turns base history by lawful (step slots 1 0 0 none) m)
    turn t waits empty = subst (λ n. Allows (Rule base history by lawful b) n id m 1 (λ n. n) (Turns base history by lawful (step n 1 0 0 none) m)) (sym one)
        (allows_of base history by lawful b 1 id m 1 (λ n. n) (Turns base history by lawful (step 1 1 0 0 none) m) (turns base history by lawful b id m t waits empty))

    pub leave : (t : ℕ) (h : List E) (o : O) (c : ℕ) → m.0.stage ≡ Holds t h → m.1 ≡ (0, Some o) ∷ [] → m.0.caller ≡ Some c → IsHistoryOf by c h (history o) → base o ≡ m.0.base → lawful m.0.base (history o)
        → Allows (Rule base history by lawful b) slots id m 1 (λ n. (n + 1) % 18446744073709551616) (Leaves base history by lawful (step slots 1 1 0 none) m)
    leave t h o c holds held named adds based law = subst (λ n. Allows (Rule base history by lawful b) n id m 1 (λ n. (n + 1) % 18446744073709551616) (Leaves base history by lawful (step n 1 1 0 none) m)) (sym one)
        (allows_of base history by lawful b 1 id m 1 (λ n. (n + 1) % 18446744073709551616) (Leaves base history by lawful (step 1 1 1 0 none) m) (leaves base history by lawful b id m t h o c holds held named adds based law))

    pub tell : m.0.stage ≡ Idle → Allows (Rule base history by lawful b) slots id m 1 (λ n. n) (Tells by lawful (step slots 1 0 0 none) m)
    tell idle = subst (λ n. Allows (Rule base history by lawful b) n id m 1 (λ n. n) (Tells by lawful (step n 1 0 0 none) m)) (sym one)
        (allows_of base history by lawful b 1 id m 1 (λ n. n) (Tells by lawful (step 1 1 0 0 none) m) (tells base history by lawful b id m idle))

    pub take : (n : ℕ) → m.0.stage ≡ Idle → m.0.caller ≡ None → n < 4611686018427387904 → Allows (Rule base history by lawful b) slots id m 2 (λ x. either (eqb x n) (n + 1) x) (Takes by (step slots 2 n (n + 1) none) m)
    take n idle nameless few = subst (λ k. Allows (Rule base history by lawful b) k id m 2 (λ x. either (eqb x n) (n + 1) x) (Takes by (step k 2 n (n + 1) none) m)) (sym one)
        (allows_of base history by lawful b 1 id m 2 (λ x. either (eqb x n) (n + 1) x) (Takes by (step 1 2 n (n + 1) none) m) (names base history by lawful b id m n idle nameless few))

    pub shut : (t : ℕ) (h : List E) (o : O) → m.0.stage ≡ Holds t h → m.1 ≡ (0, Some o) ∷ [] → history o ≡ h → base o ≡ m.0.base
        → Allows (Rule base history by lawful b) slots id m 1 (λ n. n) (Shuts (step slots 1 0 0 none) m)
    shut t h o holds held same based = subst (λ n. Allows (Rule base history by lawful b) n id m 1 (λ n. n) (Shuts (step n 1 0 0 none) m)) (sym one)
        (allows_of base history by lawful b 1 id m 1 (λ n. n) (Shuts (step 1 1 0 0 none) m) (shuts base history by lawful b id m t h o holds held same based))
