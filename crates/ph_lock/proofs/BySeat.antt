-- The rule as the proofs of steps use it: what is true of one seat in one record, and the rule's points as what is true of each seat.
use Rattle.std.proofs.Common.{◌≡◌, ℕ, ◌%◌, ◌<◌, ◌≤◌, Bool, true, false, List, [], length, get_or, sym, refl, ap, ◌∙◌, subst, arith, Option, Some, None}
use mathlib.Core.Option.{some}
use lib.ListN.{get_elem?}
use Rattle.atomic_table.specs.Table.{State, Me, Allows, Splits, Joins}
use Rattle.ph_lock.specs.declared.knowledge.Stage.{Stage}
use Rattle.ph_lock.specs.declared.knowledge.Stage.TheVariants.{Idle, Waits, Holds, Closes, Spent}
use Rattle.ph_lock.specs.declared.knowledge.Knowledge.{Knowledge}
use Rattle.ph_lock.specs.Histories.{StartsWith, StartsWithEach, AllBelow, own_entries}
use Rattle.ph_lock.specs.Rule.{IsNamed, ticket_of, noted_of, IsLive, AtHome, Rule}

-- the value of an option, or another
abbrev pub value_or : {A : Type 0} → A → Option A → A
value_or other None = other
value_or other (Some x) = x

abbrev pub number : Option ℕ → ℕ
number = value_or 0

abbrev absent : {A : Type 0} → Option A → Type 0
absent None = Unit {0}
absent (Some x) = ⊥

pub none_some : {A : Type 0} (x : A) → ¬ (◌≡◌ {A = Option A} None (Some x))
none_some x e = subst absent e tt

module _ {E : Type 0} (served drawn : ℕ) (holder : ℕ → ℕ) (whole : List E) (caller : Option ℕ) (seat : ℕ) where
  -- what is true of a seat at a stage
  abbrev pub Stands : Stage E → Type 0
  Stands Idle = Unit {0}
  Stands Spent = Unit {0}
  Stands (Waits t) = (served ≤ t) × (t < drawn) × (holder t ≡ seat) × IsNamed caller
  Stands (Holds t h) = (t ≡ served) × (t < drawn) × (holder t ≡ seat) × IsNamed caller × (h ≡ whole)
  Stands (Closes t h) = (t ≡ served) × (t < drawn) × (holder t ≡ seat) × IsNamed caller × (h ≡ whole)

  -- the points of the rule give it
  stands_of : (st : Stage E) → ((t : ℕ) → ticket_of st ≡ Some t → (served ≤ t) × (t < drawn) × (holder t ≡ seat)) → ((t : ℕ) → ticket_of st ≡ Some t → IsNamed caller)
      → ((h : List E) → noted_of st ≡ Some h → ticket_of st ≡ Some served) → ((h : List E) → noted_of st ≡ Some h → h ≡ whole) → Stands st
  stands_of Idle hand named turn noted = tt
  stands_of Spent hand named turn noted = tt
  stands_of (Waits t) hand named turn noted = let a = hand t refl in (a.0, a.1, a.2, named t refl)
  stands_of (Holds t h) hand named turn noted = let a = hand t refl in (ap number (turn h refl), a.1, a.2, named t refl, noted h refl)
  stands_of (Closes t h) hand named turn noted = let a = hand t refl in (ap number (turn h refl), a.1, a.2, named t refl, noted h refl)

  -- and they follow from it: a seat with a ticket has a name and its place in the line
  pub in_line : (st : Stage E) (t : ℕ) → Stands st → ticket_of st ≡ Some t → (served ≤ t) × (t < drawn) × (holder t ≡ seat) × IsNamed caller
  in_line Idle t k e = absurd (none_some t e)
  in_line Spent t k e = absurd (none_some t e)
  in_line (Waits u) t k e = let is : u ≡ t = ap number e in subst (λ (z : ℕ). (served ≤ z) × (z < drawn) × (holder z ≡ seat) × IsNamed caller) is k
  in_line (Holds u h) t k e = let is : u ≡ t = ap number e in let first = k.0 in subst (λ (z : ℕ). (served ≤ z) × (z < drawn) × (holder z ≡ seat) × IsNamed caller) is (omega arith, k.1, k.2, k.3)
  in_line (Closes u h) t k e = let is : u ≡ t = ap number e in let first = k.0 in subst (λ (z : ℕ). (served ≤ z) × (z < drawn) × (holder z ≡ seat) × IsNamed caller) is (omega arith, k.1, k.2, k.3)

  turn_of : (st : Stage E) (h : List E) → Stands st → noted_of st ≡ Some h → ticket_of st ≡ Some served
  turn_of Idle h k e = absurd (none_some h e)
  turn_of Spent h k e = absurd (none_some h e)
  turn_of (Waits u) h k e = absurd (none_some h e)
  turn_of (Holds u g) h k e = ap (λ (n : ℕ). Some n) k.0
  turn_of (Closes u g) h k e = ap (λ (n : ℕ). Some n) k.0

  noted_is : (st : Stage E) (h : List E) → Stands st → noted_of st ≡ Some h → h ≡ whole
  noted_is Idle h k e = absurd (none_some h e)
  noted_is Spent h k e = absurd (none_some h e)
  noted_is (Waits u) h k e = absurd (none_some h e)
  noted_is (Holds u g) h k e = let is : g ≡ h = ap (value_or whole) e in sym is ∙ k.4
  noted_is (Closes u g) h k e = let is : g ≡ h = ap (value_or whole) e in sym is ∙ k.4

module _ {O E B : Type 0} (base : O → B) (history : O → List E) (by : E → ℕ) (lawful : B → List E → Type 0) where
  -- what is true of one live seat
  pub record Fits (b : B) (served drawn : ℕ) (holder : ℕ → ℕ) (whole : List E) (top seat : ℕ) (v : Knowledge E B) : Type 0 where
    pub based : v.base ≡ b
    pub seen : StartsWith whole v.front
    pub law : lawful b v.front
    pub owns : (name : ℕ) → v.caller ≡ Some name → (own_entries by name 1 whole ≡ v.mine) × (own_entries by name 1 v.front ≡ v.mine) × (name < top)
    pub kept : StartsWithEach v.front v.remembered
    pub nameless : v.caller ≡ None → v.mine ≡ []
    pub stands : Stands served drawn holder whole v.caller seat v.stage

  -- the rule, seat by seat
  pub record Kept (b : B) (s : State (Option O) (Knowledge E B)) : Type 0 where
    pub drawn : ℕ
    pub served : ℕ
    pub holder_of : ℕ → ℕ
    pub whole : List E
    pub out : Bool
    pub wide : length s.words ≡ 3
    pub ticket_word : get_or s.words 0 0 ≡ drawn % 18446744073709551616
    pub serving_word : get_or s.words 1 0 ≡ served % 18446744073709551616
    pub few : get_or s.words 2 0 ≤ 4611686018427387904
    pub order : served ≤ drawn
    pub law : lawful b whole
    pub tops : AllBelow by (get_or s.words 2 0) whole
    pub each : (seat : ℕ) (v : Knowledge E B) → get_elem? s.views seat ≡ some v → IsLive v.stage → Fits b served drawn holder_of whole (get_or s.words 2 0) seat v
    pub apart : (i j : ℕ) (v w : Knowledge E B) (name : ℕ) → get_elem? s.views i ≡ some v → get_elem? s.views j ≡ some w → v.caller ≡ Some name → w.caller ≡ Some name → i ≡ j
    pub below : (seat : ℕ) (v : Knowledge E B) (name : ℕ) → get_elem? s.views seat ≡ some v → v.caller ≡ Some name → name < get_or s.words 2 0
    pub line : (t : ℕ) → served ≤ t → t < drawn → (v : Knowledge E B) × (get_elem? s.views (holder_of t) ≡ some v) × (ticket_of v.stage ≡ Some t)
    pub longest : (seat : ℕ) × (v : Knowledge E B) × (get_elem? s.views seat ≡ some v) × IsLive v.stage × (v.front ≡ whole)
    pub away : out ≡ true → (v : Knowledge E B) × (t : ℕ) × (h : List E) × (get_elem? s.views (holder_of served) ≡ some v) × (v.stage ≡ Holds t h)
    pub home : out ≡ false → AtHome base history by lawful b whole s.homes

  module _ (b : B) (s : State (Option O) (Knowledge E B)) where
    pub by_seat : Rule base history by lawful b s → Kept b s
    by_seat r = record {
      drawn = r.drawn;
      served = r.served;
      holder_of = r.holder;
      whole = r.whole;
      out = r.out;
      wide = r.three_words;
      ticket_word = r.ticket_word;
      serving_word = r.serving_word;
      few = r.names.few;
      order = r.tickets.order;
      law = r.one_history.0;
      tops = r.names.entries;
      each = λ seat v at lives.
          let front = r.one_history.1 seat v at lives in
          record {
            based = r.one_base seat v at lives;
            seen = front.0;
            law = front.1;
            owns = λ name is. let own = r.callers.own seat v at lives name is in (own.0, own.1, r.names.seats seat v name at is);
            kept = r.remembered seat v at lives;
            nameless = r.callers.no_mine seat v at lives;
            stands = stands_of r.served r.drawn r.holder r.whole v.caller seat v.stage (r.tickets.in_hand seat v at lives) (r.callers.no_ticket seat v at lives) (r.one_turn seat v at lives) (r.object.noted seat v at lives);
          };
      apart = r.callers.apart;
      below = r.names.seats;
      line = r.tickets.held;
      longest = r.object.longest;
      away = r.object.away;
      home = r.object.home;
    }

    pub by_point : Kept b s → Rule base history by lawful b s
    by_point k = record {
      drawn = k.drawn;
      served = k.served;
      holder = k.holder_of;
      whole = k.whole;
      out = k.out;
      three_words = k.wide;
      ticket_word = k.ticket_word;
      serving_word = k.serving_word;
      tickets = record {
        order = k.order;
        in_hand = λ seat v at lives t has. let f = k.each seat v at lives in let l = in_line k.served k.drawn k.holder_of k.whole v.caller seat v.stage t f.stands has in (l.0, l.1, l.2);
        held = k.line;
      };
      one_turn = λ seat v at lives h notes. let f = k.each seat v at lives in turn_of k.served k.drawn k.holder_of k.whole v.caller seat v.stage h f.stands notes;
      one_history = (k.law, λ seat v at lives. let f = k.each seat v at lives in (f.seen, f.law));
      object = record {
        longest = k.longest;
        home = k.home;
        away = k.away;
        noted = λ seat v at lives h notes. let f = k.each seat v at lives in noted_is k.served k.drawn k.holder_of k.whole v.caller seat v.stage h f.stands notes;
      };
      callers = record {
        apart = k.apart;
        own = λ seat v at lives name is. let f = k.each seat v at lives in let o = f.owns name is in (o.0, o.1);
        no_mine = λ seat v at lives. let f = k.each seat v at lives in f.nameless;
        no_ticket = λ seat v at lives t has. let f = k.each seat v at lives in let l = in_line k.served k.drawn k.holder_of k.whole v.caller seat v.stage t f.stands has in l.3;
      };
      names = record { few = k.few; seats = k.below; entries = k.tops };
      remembered = λ seat v at lives. let f = k.each seat v at lives in f.kept;
      one_base = λ seat v at lives. let f = k.each seat v at lives in f.based;
    }

  -- a step that keeps the one keeps the other
  pub allows_of : (b : B) (slots id : ℕ) (me : Me (Option O) (Knowledge E B)) (i : ℕ) (f : ℕ → ℕ) (then : ℕ → Me (Option O) (Knowledge E B) → Type 0)
      → Allows (Kept b) slots id me i f then → Allows (Rule base history by lawful b) slots id me i f then
  allows_of b slots id me i f then step s r long at small = let x = step s (by_seat b s r) long at small in (x.0, x.1, x.2, by_point b _ x.3, x.4)

  pub splits_of : (b : B) (id : ℕ) (v left right : Knowledge E B) → Splits (Kept b) id v left right → Splits (Rule base history by lawful b) id v left right
  splits_of b id v left right step s r at = by_point b _ (step s (by_seat b s r) at)

  pub joins_of : (b : B) (id : ℕ) (v : Knowledge E B) (other : ℕ) (w both spent : Knowledge E B) → Joins (Kept b) id v other w both spent → Joins (Rule base history by lawful b) id v other w both spent
  joins_of b id v other w both spent step s r at apart there = by_point b _ (step s (by_seat b s r) at apart there)
