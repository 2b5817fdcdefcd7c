-- A seat draws a ticket, takes its turn and gives it back: these steps keep the rule.
use Rattle.std.proofs.Common.{◌≡◌, ◌≢◌, ℕ, zero, suc, ◌+◌, ◌-◌, ◌%◌, ◌<◌, ◌≤◌, Bool, true, false, cond, eqb, List, [], ◌∷◌, ◌++◌, length, get_or, set, sym, refl, ap, ◌∙◌, subst, inl, inr, ⊎_elim, arith, length-set, get_or-set_other, get_or-set_same, eq-eqb, ne_eqb, Option, Some, None}
use mathlib.Core.Logic.{dite}
use mathlib.Core.Option.{Option as Maybe, none, some, some-injective, some-ne-none}
use native.Mathlib.Decide.{ℕ_discrete}
use lib.ListN.{get_elem?}
use lib.Seq.{set-get_or}
use Rattle.std.proofs.lemmas.List.{append_assoc}
use mathlib.Core.List.{append-nil}
use Rattle.atomic_table.specs.Table.{State, Me, Act, step, keeps, takes, gives, stepped, put_back, Valid, carried_after, rest, Allows}
use Rattle.atomic_table.proofs.Lists.{at_set, set_here, set_else, set_again, one_turn}
use Rattle.ph_lock.specs.declared.knowledge.Stage.{Stage}
use Rattle.ph_lock.specs.declared.knowledge.Stage.TheVariants.{Idle, Waits, Holds, Closes, Spent}
use Rattle.ph_lock.specs.declared.knowledge.Knowledge.{Knowledge}
use Rattle.ph_lock.specs.Histories.{StartsWith, AllBelow, own_entries}
use Rattle.ph_lock.specs.Rule.{ticket_of, IsLive, IsNamed}
use Rattle.ph_lock.specs.Steps.{with_stage, Draws, Turns, left_with, Leaves, IsHistoryOf}
use Rattle.ph_lock.proofs.BySeat.{number, none_some, in_line, Stands, Fits, Kept}
use Rattle.ph_lock.proofs.Pigeons.{pigeons}
use Rattle.ph_lock.proofs.Owns.{own-append, own_other}

abbrev word : ℕ
word = 18446744073709551616

abbrev item : {O : Type 0} → O → Option O → O
item d None = d
item d (Some o) = o

abbrev first_of : {O : Type 0} → O → List (ℕ × Option O) → O
first_of d [] = d
first_of d (x ∷ xs) = item d x.1

abbrev pub is_on : Bool → Type 0
is_on true = Unit {0}
is_on false = ⊥

module _ {E : Type 0} where
  abbrev is_waiting : Stage E → Type 0
  is_waiting (Waits t) = Unit {0}
  is_waiting _ = ⊥

  -- a history that goes on begins with all that it began with
  goes_on : (a b d : List E) → StartsWith a b → StartsWith b d → StartsWith a d
  goes_on a b d s t = (t.0 ++ s.0, s.1 ∙ (ap (λ (l : List E). l ++ s.0) t.1 ∙ append_assoc d t.0 s.0))

  grown : (by : E → ℕ) (c : ℕ) (h after : List E) → IsHistoryOf by c h after → StartsWith after h × ((k : ℕ) → k ≢ c → own_entries by k 1 after ≡ own_entries by k 1 h)
  grown by c h after (inl e) = (([], e ∙ sym (append-nil h)), λ k ne. ap (own_entries by k 1) e)
  grown by c h after (inr t) = ((t.0 ∷ [], t.2), λ k ne. ap (own_entries by k 1) t.2 ∙ (own-append by k 1 h (t.0 ∷ []) ∙ (ap (λ l. own_entries by k 1 h ++ l) (own_other by k (length h + 1) t.0 (λ e. ne (sym e ∙ t.1))) ∙ append-nil (own_entries by k 1 h))))

pub live : {E : Type 0} (st : Stage E) (t : ℕ) → ticket_of st ≡ Some t → IsLive st
live Idle t e = tt
live (Waits u) t e = tt
live (Holds u h) t e = tt
live (Closes u h) t e = tt
live Spent t e = absurd (none_some t e)

all_below_append : {E : Type 0} (by : E → ℕ) (n : ℕ) (xs : List E) (e : E) → AllBelow by n xs → by e < n → AllBelow by n (xs ++ e ∷ [])
all_below_append by n [] e all l = (l, tt)
all_below_append by n (x ∷ xs) e all l = (all.0, all_below_append by n xs e all.1 l)

tops_grow : {E : Type 0} (by : E → ℕ) (n c : ℕ) (h after : List E) → IsHistoryOf by c h after → c < n → AllBelow by n h → AllBelow by n after
tops_grow by n c h after (inl e) l all = subst (AllBelow by n) (sym e) all
tops_grow by n c h after (inr t) l all = subst (AllBelow by n) (sym t.2) (all_below_append by n h t.0 all (subst (λ (k : ℕ). k < n) (sym t.1) l))

module _ {O E B : Type 0} (base : O → B) (history : O → List E) (by : E → ℕ) (lawful : B → List E → Type 0) where
  abbrev K : Type 0
  K = Knowledge E B

  abbrev St : Type 0
  St = State (Option O) K

  abbrev M : Type 0
  M = Me (Option O) K

  abbrev Held : B → St → Type 0
  Held = Kept base history by lawful

  abbrev caller_at : Maybe K → ℕ
  caller_at none = 0
  caller_at (some v) = number v.caller

  abbrev ticket_at : Maybe K → ℕ
  ticket_at none = 0
  ticket_at (some v) = number (ticket_of v.stage)

  -- who has a ticket
  holder : (b : B) (s : St) (r : Held b s) (t : ℕ) → r.served ≤ t → t < r.drawn
      → (v : K) × (c : ℕ) × (get_elem? s.views (r.holder_of t) ≡ some v) × (ticket_of v.stage ≡ Some t) × (v.caller ≡ Some c) × (c < 4611686018427387904)
  holder b s r t from below =
      let l = r.line t from below in
      let f = r.each (r.holder_of t) l.0 l.1 (live l.0.stage t l.2) in
      let k = in_line r.served r.drawn r.holder_of r.whole l.0.caller (r.holder_of t) l.0.stage t f.stands l.2 in
      let name = k.3 in
      let o = f.owns name.0 name.1 in
      let top = o.2 in
      let few = r.few in
      (l.0, name.0, l.1, l.2, name.1, omega arith)

  -- at most 2 ^ 62 tickets are out
  room : (b : B) (s : St) (r : Held b s) (n : ℕ) → r.served + n ≡ r.drawn → n ≤ 4611686018427387904
  room b s r n is =
      pigeons 4611686018427387904 n (λ i. caller_at (get_elem? s.views (r.holder_of (r.served + i))))
      (λ i l. let h = holder b s r (r.served + i) (omega arith) (omega arith) in
      let same : caller_at (get_elem? s.views (r.holder_of (r.served + i))) ≡ h.1 = ap caller_at h.2 ∙ ap number h.4 in
      let small = h.5 in omega arith)
      (λ i j li lj e.
      let h = holder b s r (r.served + i) (omega arith) (omega arith) in
      let k = holder b s r (r.served + j) (omega arith) (omega arith) in
      let same : h.1 ≡ k.1 = sym (ap caller_at h.2 ∙ ap number h.4) ∙ e ∙ (ap caller_at k.2 ∙ ap number k.4) in
      let seats : r.holder_of (r.served + i) ≡ r.holder_of (r.served + j) = r.apart _ _ h.0 k.0 h.1 h.2 k.2 h.4 (k.4 ∙ ap (λ (z : ℕ). Some z) (sym same)) in
      let tickets : r.served + i ≡ r.served + j = sym (ap ticket_at h.2 ∙ ap number h.3) ∙ ap (λ (z : ℕ). ticket_at (get_elem? s.views z)) seats ∙ (ap ticket_at k.2 ∙ ap number k.3) in
      omega arith)

  pub at_length : (vs : List K) (i : ℕ) (v : K) → get_elem? vs i ≡ some v → i < length vs
  at_length [] i v e = absurd (some-ne-none v (sym e))
  at_length (x ∷ xs) zero v e = omega arith
  at_length (x ∷ xs) (suc i) v e = let l = at_length xs i v e in omega arith

  -- another pass's caller stays apart where one pass keeps its own
  pub apart_set : (vs : List K) (id : ℕ) (v w : K) → get_elem? vs id ≡ some v → w.caller ≡ v.caller
      → ((i j : ℕ) (x y : K) (c : ℕ) → get_elem? vs i ≡ some x → get_elem? vs j ≡ some y → x.caller ≡ Some c → y.caller ≡ Some c → i ≡ j)
      → (i j : ℕ) (x y : K) (c : ℕ) → get_elem? (set vs id w) i ≡ some x → get_elem? (set vs id w) j ≡ some y → x.caller ≡ Some c → y.caller ≡ Some c → i ≡ j
  apart_set vs id v w at same apart i j x y c ix jy cx cy =
      let back : (k : ℕ) (z : K) → get_elem? (set vs id w) k ≡ some z → z.caller ≡ Some c → (u : K) × (get_elem? vs k ≡ some u) × (u.caller ≡ Some c) =
      λ k z kz cz. ⊎_elim
      (λ (t : (k ≡ id) × (w ≡ z)). (v, subst (λ (n : ℕ). get_elem? vs n ≡ some v) (sym t.0) at, sym same ∙ ap (λ (u : K). u.caller) t.1 ∙ cz))
      (λ (t : (k ≢ id) × (get_elem? vs k ≡ some z)). (z, t.1, cz))
      (at_set vs id k w z kz) in
      let a = back i x ix cx in let d = back j y jy cy in apart i j a.0 d.0 c a.1 d.1 a.2 d.2

  pub below_set : {n : ℕ} (vs : List K) (id : ℕ) (v w : K) → get_elem? vs id ≡ some v → w.caller ≡ v.caller → ((j : ℕ) (x : K) (c : ℕ) → get_elem? vs j ≡ some x → x.caller ≡ Some c → c < n)
      → (j : ℕ) (x : K) (c : ℕ) → get_elem? (set vs id w) j ≡ some x → x.caller ≡ Some c → c < n
  below_set {n} vs id v w at same all j x c there named = ⊎_elim
      (λ (t : (j ≡ id) × (w ≡ x)). all id v c at (sym same ∙ (ap (λ (u : K). u.caller) t.1 ∙ named)))
      (λ (t : (j ≢ id) × (get_elem? vs j ≡ some x)). all j x c t.1 named)
      (at_set vs id j w x there)

  pub below_same : (ws : List ℕ) (i y : ℕ) (vs : List K) (id : ℕ) (v w : K) → get_elem? vs id ≡ some v → w.caller ≡ v.caller → 2 ≢ i → ((j : ℕ) (x : K) (c : ℕ) → get_elem? vs j ≡ some x → x.caller ≡ Some c → c < get_or ws 2 0)
      → (j : ℕ) (x : K) (c : ℕ) → get_elem? (set vs id w) j ≡ some x → x.caller ≡ Some c → c < get_or (set ws i y) 2 0
  below_same ws i y vs id v w at same ne all j x c there named = subst (λ (n : ℕ). c < n) (sym (get_or-set_other ws i 2 y 0 ne)) (below_set vs id v w at same all j x c there named)

  -- what is true of each pass stays so where one gets a new view
  pub each_set : (P Q : ℕ → K → Type 0) (vs : List K) (id : ℕ) (w : K) → Q id w → ((j : ℕ) (v : K) → j ≢ id → P j v → Q j v) → ((j : ℕ) (v : K) → get_elem? vs j ≡ some v → P j v)
      → (j : ℕ) (v : K) → get_elem? (set vs id w) j ≡ some v → Q j v
  each_set P Q vs id w mine others all j v at = ⊎_elim
      (λ (t : (j ≡ id) × (w ≡ v)). subst (λ (n : ℕ). Q n v) (sym t.0) (subst (λ (u : K). Q id u) t.1 mine))
      (λ (t : (j ≢ id) × (get_elem? vs j ≡ some v)). others j v t.0 (all j v t.1))
      (at_set vs id j w v at)

  -- the longest front stays where a seat that changes keeps its front
  abbrev pub Longest : List K → List E → Type 0
  Longest vs whole = (seat : ℕ) × (u : K) × (get_elem? vs seat ≡ some u) × IsLive u.stage × (u.front ≡ whole)

  pub longest_set : (vs : List K) (id : ℕ) (v w : K) (whole : List E) → get_elem? vs id ≡ some v → IsLive w.stage → w.front ≡ v.front → Longest vs whole → Longest (set vs id w) whole
  longest_set vs id v w whole at lives same l = dite (ℕ_discrete l.0 id)
      (λ e. let is : v ≡ l.1 = some-injective v l.1 (sym at ∙ (ap (get_elem? vs) (sym e) ∙ l.2)) in
      (id, w, set_here vs id w (at_length vs id v at), lives, same ∙ (ap (λ (u : K). u.front) is ∙ l.4)))
      (λ ne. (l.0, l.1, set_else vs id l.0 w ne ∙ l.2, l.3, l.4))

  -- draw: the seat draws a ticket
  further : (n : ℕ) → (n % 18446744073709551616 + 1) % 18446744073709551616 ≡ suc n % 18446744073709551616
  further n = omega arith

  abbrev redrawn : (ℕ → ℕ) → ℕ → ℕ → ℕ → ℕ
  redrawn f d id t = cond (eqb t d) id (f t)

  redrawn_hit : (f : ℕ → ℕ) (d id : ℕ) → redrawn f d id d ≡ id
  redrawn_hit f d id = ap (λ b. cond b id (f d)) (eq-eqb d d refl)

  redrawn_miss : (f : ℕ → ℕ) (d id t : ℕ) → t ≢ d → redrawn f d id t ≡ f t
  redrawn_miss f d id t ne = ap (λ b. cond b id (f t)) (ne_eqb t d ne)

  drawn_stands : (served d id : ℕ) (f : ℕ → ℕ) (whole : List E) (caller : Option ℕ) (j : ℕ) (st : Stage E)
      → Stands served d f whole caller j st → Stands served (suc d) (redrawn f d id) whole caller j st
  drawn_stands served d id f whole caller j Idle k = tt
  drawn_stands served d id f whole caller j Spent k = tt
  drawn_stands served d id f whole caller j (Waits t) k = let below = k.1 in (k.0, omega arith, redrawn_miss f d id t (λ e. omega arith) ∙ k.2, k.3)
  drawn_stands served d id f whole caller j (Holds t h) k = let below = k.1 in (k.0, omega arith, redrawn_miss f d id t (λ e. omega arith) ∙ k.2, k.3, k.4)
  drawn_stands served d id f whole caller j (Closes t h) k = let below = k.1 in (k.0, omega arith, redrawn_miss f d id t (λ e. omega arith) ∙ k.2, k.3, k.4)

  abbrev pub Each : B → St → ℕ → ℕ → (ℕ → ℕ) → List E → ℕ → K → Type 0
  Each b s served drawn holder_of whole j u = IsLive u.stage → Fits base history by lawful b served drawn holder_of whole (get_or s.words 2 0) j u

  pub draws : (b : B) (id : ℕ) (m : M) → m.0.stage ≡ Idle → IsNamed m.0.caller → Allows (Held b) 1 id m 0 (λ n. (n + 1) % 18446744073709551616) (Draws (step 1 0 1 0 none) m)
  draws b id m idle named s r long at small =
      let v : K = m.0 in let d : ℕ = r.drawn in let w : K = with_stage v (Waits d) in let x : ℕ = (get_or s.words 0 0 + 1) % 18446744073709551616 in
      let mine = r.each id v at (subst IsLive (sym idle) tt) in let wide = r.wide in let order = r.order in
      let idle_not : (t : ℕ) → ¬ (ticket_of v.stage ≡ Some t) = λ t e. none_some t (sym (ap ticket_of idle) ∙ e) in
      let apart_of : (t : ℕ) (u : K) → get_elem? s.views (r.holder_of t) ≡ some u → ticket_of u.stage ≡ Some t → r.holder_of t ≢ id =
      λ t u there is same. idle_not t (ap (λ (k : K). ticket_of k.stage) (some-injective v u (sym at ∙ (ap (get_elem? s.views) (sym same) ∙ there))) ∙ is) in (
        w,
        keeps,
        tt,
        record {
          drawn = suc d;
          served = r.served;
          holder_of = redrawn r.holder_of d id;
          whole = r.whole;
          out = r.out;
          wide = length-set s.words 0 x ∙ wide;
          ticket_word = get_or-set_same s.words 0 x 0 (omega arith) ∙ (ap (λ (n : ℕ). (n + 1) % 18446744073709551616) r.ticket_word ∙ further d);
          serving_word = get_or-set_other s.words 0 1 x 0 (λ e. omega arith) ∙ r.serving_word;
          few = subst (λ (n : ℕ). n ≤ 4611686018427387904) (sym (get_or-set_other s.words 0 2 x 0 (λ e. omega arith))) r.few;
          order = omega arith;
          law = r.law;
          tops = subst (λ (n : ℕ). AllBelow by n r.whole) (sym (get_or-set_other s.words 0 2 x 0 (λ e. omega arith))) r.tops;
          each = subst (λ (n : ℕ). (j : ℕ) (u : K) → get_elem? (set s.views id w) j ≡ some u → IsLive u.stage → Fits base history by lawful b r.served (suc d) (redrawn r.holder_of d id) r.whole n j u)
              (sym (get_or-set_other s.words 0 2 x 0 (λ e. omega arith)))
              (each_set (Each b s r.served d r.holder_of r.whole) (Each b s r.served (suc d) (redrawn r.holder_of d id) r.whole) s.views id w
              (λ _. record { based = mine.based; seen = mine.seen; law = mine.law; owns = mine.owns; kept = mine.kept; nameless = mine.nameless; stands = (order, omega arith, redrawn_hit r.holder_of d id, named) })
              (λ j u ne g lives. let f = g lives in record { based = f.based; seen = f.seen; law = f.law; owns = f.owns; kept = f.kept; nameless = f.nameless; stands = drawn_stands r.served d id r.holder_of r.whole u.caller j u.stage f.stands })
              r.each);
          apart = apart_set s.views id v w at refl r.apart;
          below = below_same s.words 0 x s.views id v w at refl (λ e. omega arith) r.below;
          line = λ t from below. dite (ℕ_discrete t d)
              (λ e. (w, ap (get_elem? (set s.views id w)) (ap (redrawn r.holder_of d id) e ∙ redrawn_hit r.holder_of d id) ∙ set_here s.views id w (at_length s.views id v at), ap (λ (n : ℕ). Some n) (sym e)))
              (λ ne. let l = r.line t from (omega arith) in
              (l.0, ap (get_elem? (set s.views id w)) (redrawn_miss r.holder_of d id t ne) ∙ (set_else s.views id (r.holder_of t) w (apart_of t l.0 l.1 l.2) ∙ l.1), l.2));
          longest = longest_set s.views id v w r.whole at tt refl r.longest;
          away = λ gone. let a = r.away gone in let f = r.each (r.holder_of r.served) a.0 a.3 (subst IsLive (sym a.4) tt) in
              let k = subst (Stands r.served d r.holder_of r.whole a.0.caller (r.holder_of r.served)) a.4 f.stands in let is = k.0 in let below = k.1 in
              let ticket : ticket_of a.0.stage ≡ Some r.served = ap ticket_of a.4 ∙ ap (λ (n : ℕ). Some n) is in
              (a.0, a.1, a.2, ap (get_elem? (set s.views id w)) (redrawn_miss r.holder_of d id r.served (λ e. omega arith)) ∙ (set_else s.views id (r.holder_of r.served) w (apart_of r.served a.0 a.3 ticket) ∙ a.3), a.4);
          home = r.home;
        },
        (d, r.ticket_word, refl),
      )

  -- turn: the seat sees which ticket is served, and where that is its own it takes the object
  module _ (b : B) (id : ℕ) (m : M) (t : ℕ) (waits : m.0.stage ≡ Waits t) (none_held : m.1 ≡ []) where
    turns_miss : (s : St) → Held b s → get_elem? s.views id ≡ some m.0 → get_or s.words 1 0 ≢ t % 18446744073709551616
        → (w : K) × (a : Act (Option O)) × Valid s.homes m.1 a × Held b (stepped s 1 (get_or s.words 1 0) id m.1 w a) × Turns base history by lawful (step 1 1 0 0 none) m (get_or s.words 1 0) (w, carried_after m.1 a)
    turns_miss s r at miss = (
      m.0,
      keeps,
      tt,
      subst (λ (ws : List ℕ). Held b record { words = ws; homes = s.homes; views = set s.views id m.0 }) (sym (set-get_or s.words 1 0))
          (subst (λ (vs : List K). Held b record { words = s.words; homes = s.homes; views = vs }) (sym (set_again s.views id m.0 at)) r),
      λ u e h. let same : t ≡ u = ap number (ap ticket_of (sym waits ∙ e)) in
          ((λ hit. absurd (miss (hit ∙ ap (λ (n : ℕ). n % 18446744073709551616) (sym same)))), λ _. refl),
    )

    turns_hit : (o : Bool) (s : St) (r : Held b s) → get_elem? s.views id ≡ some m.0 → get_or s.words 1 0 ≡ t % 18446744073709551616 → r.served ≡ t → r.holder_of r.served ≡ id → length s.homes ≡ 1 → r.out ≡ o
        → (w : K) × (a : Act (Option O)) × Valid s.homes m.1 a × Held b (stepped s 1 (get_or s.words 1 0) id m.1 w a) × Turns base history by lawful (step 1 1 0 0 none) m (get_or s.words 1 0) (w, carried_after m.1 a)
    turns_hit true s r at hit now place long is =
        let a = r.away is in
        let same : a.0 ≡ m.0 = some-injective a.0 m.0 (sym a.3 ∙ (ap (get_elem? s.views) place ∙ at)) in
        absurd (subst is_waiting (sym waits ∙ (ap (λ (u : K). u.stage) (sym same) ∙ a.4)) tt)
    turns_hit false s r at hit now place long is =
        let v : K = m.0 in
        let mine = r.each id v at (subst IsLive (sym waits) tt) in
        let k = subst (Stands r.served r.drawn r.holder_of r.whole v.caller id) waits mine.stands in
        let o = r.home is in
        let w : K = with_stage v (Holds t (history o.0)) in
        let here = set_here s.views id w (at_length s.views id v at) in (
          w,
          takes 0 (Some o.0),
          o.1,
          subst (λ (ws : List ℕ). Held b record { words = ws; homes = set s.homes 0 none; views = set s.views id w }) (sym (set-get_or s.words 1 0)) record {
            drawn = r.drawn;
            served = r.served;
            holder_of = r.holder_of;
            whole = r.whole;
            out = true;
            wide = r.wide;
            ticket_word = r.ticket_word;
            serving_word = r.serving_word;
            few = r.few;
            order = r.order;
            law = r.law;
            tops = r.tops;
            each = each_set (Each b s r.served r.drawn r.holder_of r.whole) (Each b s r.served r.drawn r.holder_of r.whole) s.views id w
                (λ _. record { based = mine.based; seen = mine.seen; law = mine.law; owns = mine.owns; kept = mine.kept; nameless = mine.nameless; stands = (sym now, k.1, k.2, k.3, o.3) })
                (λ j u ne f. f)
                r.each;
            apart = apart_set s.views id v w at refl r.apart;
            below = below_set s.views id v w at refl r.below;
            line = λ u from below. dite (ℕ_discrete u t)
                (λ e. (w, ap (get_elem? (set s.views id w)) (ap r.holder_of e ∙ k.2) ∙ here, ap (λ (n : ℕ). Some n) (sym e)))
                (λ ne. let l = r.line u from below in
                let other : r.holder_of u ≢ id = λ same. ne (ap number (sym l.2 ∙ (ap (λ (x : K). ticket_of x.stage) (some-injective l.0 v (sym l.1 ∙ (ap (get_elem? s.views) same ∙ at))) ∙ ap ticket_of waits))) in
                (l.0, set_else s.views id (r.holder_of u) w other ∙ l.1, l.2));
            longest = longest_set s.views id v w r.whole at tt refl r.longest;
            away = λ _. (w, t, history o.0, ap (get_elem? (set s.views id w)) place ∙ here, refl);
            home = λ e. absurd (subst is_on e tt);
          },
          λ u e h. let same : t ≡ u = ap number (ap ticket_of (sym waits ∙ e)) in (
            (λ _. (
              o.0,
              (λ i. (with_stage v (Holds (same i) (history o.0)), (0, Some o.0) ∷ h i)),
              record {
                base_is = o.2 ∙ sym mine.based;
                legal = subst (λ (z : B). lawful z (history o.0)) (sym mine.based) (subst (lawful b) (sym o.3) r.law);
                seen = subst (λ (l : List E). StartsWith l v.front) (sym o.3) mine.seen;
                own = λ c named. let own_is = mine.owns c named in (ap (own_entries by c 1) o.3 ∙ own_is.0, own_is.1);
              },
            )),
            λ miss. absurd (miss (hit ∙ ap (λ (n : ℕ). n % 18446744073709551616) same)),
          ),
        )

    pub turns : Allows (Held b) 1 id m 1 (λ n. n) (Turns base history by lawful (step 1 1 0 0 none) m)
    turns s r long at small = dite (ℕ_discrete (get_or s.words 1 0) (t % 18446744073709551616))
        (λ hit.
        let mine = r.each id m.0 at (subst IsLive (sym waits) tt) in
        let k = subst (Stands r.served r.drawn r.holder_of r.whole m.0.caller id) waits mine.stands in
        let from = k.0 in let below = k.1 in let order = r.order in
        let few = room b s r (r.drawn - r.served) (omega arith) in
        let now : r.served ≡ t = one_turn r.served t 18446744073709551616 from (omega arith) (sym r.serving_word ∙ hit) in
        turns_hit r.out s r at hit now (ap r.holder_of now ∙ k.2) long refl)
        (λ miss. turns_miss s r at miss)

  -- leave: the seat gives the turn back
  left_stands : (served d id : ℕ) (f : ℕ → ℕ) (whole after : List E) (caller : Option ℕ) (j : ℕ) (st : Stage E) → j ≢ id → f served ≡ id
      → Stands served d f whole caller j st → Stands (suc served) d f after caller j st
  left_stands served d id f whole after caller j Idle ne place k = tt
  left_stands served d id f whole after caller j Spent ne place k = tt
  left_stands served d id f whole after caller j (Waits t) ne place k = let from = k.0 in
      let other : t ≢ served = λ e. ne (sym k.2 ∙ (ap f e ∙ place)) in (omega arith, k.1, k.2, k.3)
  left_stands served d id f whole after caller j (Holds t h) ne place k = absurd (ne (sym k.2 ∙ (ap f k.0 ∙ place)))
  left_stands served d id f whole after caller j (Closes t h) ne place k = absurd (ne (sym k.2 ∙ (ap f k.0 ∙ place)))

  pub leaves : (b : B) (id : ℕ) (m : M) (t : ℕ) (h : List E) (o : O) (c : ℕ) → m.0.stage ≡ Holds t h → m.1 ≡ (0, Some o) ∷ [] → m.0.caller ≡ Some c → IsHistoryOf by c h (history o) → base o ≡ m.0.base
      → lawful m.0.base (history o) → Allows (Held b) 1 id m 1 (λ n. (n + 1) % 18446744073709551616) (Leaves base history by lawful (step 1 1 1 0 none) m)
  leaves b id m t h o c holds held named adds based law s r long at small =
      let v : K = m.0 in
      let mine = r.each id v at (subst IsLive (sym holds) tt) in
      let k = subst (Stands r.served r.drawn r.holder_of r.whole v.caller id) holds mine.stands in
      let now = k.0 in let below = k.1 in let wide = r.wide in
      let after : List E = history o in
      let w : K = left_with by v c after in
      let x : ℕ = (get_or s.words 1 0 + 1) % 18446744073709551616 in
      let place : r.holder_of r.served ≡ id = ap r.holder_of (sym now) ∙ k.2 in
      let grows = grown by c r.whole after (subst (λ (l : List E). IsHistoryOf by c l after) k.4 adds) in
      let law' : lawful b after = subst (λ (z : B). lawful z after) mine.based law in
      let homes : put_back s.homes m.1 ≡ set s.homes 0 (some (Some o)) = ap (put_back s.homes) held in (
        w,
        gives,
        tt,
        record {
          drawn = r.drawn;
          served = suc r.served;
          holder_of = r.holder_of;
          whole = after;
          out = false;
          wide = length-set s.words 1 x ∙ wide;
          ticket_word = get_or-set_other s.words 1 0 x 0 (λ e. omega arith) ∙ r.ticket_word;
          serving_word = get_or-set_same s.words 1 x 0 (omega arith) ∙ (ap (λ (n : ℕ). (n + 1) % 18446744073709551616) r.serving_word ∙ further r.served);
          few = subst (λ (n : ℕ). n ≤ 4611686018427387904) (sym (get_or-set_other s.words 1 2 x 0 (λ e. omega arith))) r.few;
          order = omega arith;
          law = law';
          tops = let old = mine.owns c named in subst (λ (n : ℕ). AllBelow by n after) (sym (get_or-set_other s.words 1 2 x 0 (λ e. omega arith)))
              (tops_grow by (get_or s.words 2 0) c r.whole after (subst (λ (l : List E). IsHistoryOf by c l after) k.4 adds) old.2 r.tops);
          each = subst (λ (n : ℕ). (j : ℕ) (u : K) → get_elem? (set s.views id w) j ≡ some u → IsLive u.stage → Fits base history by lawful b (suc r.served) r.drawn r.holder_of after n j u)
              (sym (get_or-set_other s.words 1 2 x 0 (λ e. omega arith)))
              (each_set (λ j u. (get_elem? s.views j ≡ some u) × Each b s r.served r.drawn r.holder_of r.whole j u) (Each b s (suc r.served) r.drawn r.holder_of after) s.views id w
              (λ _. record {
                based = mine.based;
                seen = ([], sym (append-nil after));
                law = law';
                kept = tt;
                nameless = λ e. absurd (none_some c (sym e ∙ named));
                owns = λ d e. let same : c ≡ d = ap number (sym named ∙ e) in let old = mine.owns c named in
                    (ap (λ (n : ℕ). own_entries by n 1 after) (sym same), ap (λ (n : ℕ). own_entries by n 1 after) (sym same), subst (λ (n : ℕ). n < get_or s.words 2 0) same old.2);
                stands = tt;
              })
              (λ j u ne p lives. let f = p.1 lives in record {
                kept = f.kept;
                nameless = f.nameless;
                based = f.based;
                seen = goes_on after r.whole u.front grows.0 f.seen;
                law = f.law;
                owns = λ d e. let old = f.owns d e in (grows.1 d (λ is. ne (r.apart j id u v d p.0 at e (named ∙ ap (λ (n : ℕ). Some n) (sym is)))) ∙ old.0, old.1, old.2);
                stands = left_stands r.served r.drawn id r.holder_of r.whole after u.caller j u.stage ne place f.stands;
              })
              (λ j u there. (there, r.each j u there)));
          apart = apart_set s.views id v w at refl r.apart;
          below = below_same s.words 1 x s.views id v w at refl (λ e. omega arith) r.below;
          line = λ u from under. let l = r.line u (omega arith) under in
              let other : r.holder_of u ≢ id = λ same.
              let is : u ≡ t = ap number (sym l.2 ∙ (ap (λ (x : K). ticket_of x.stage) (some-injective l.0 v (sym l.1 ∙ (ap (get_elem? s.views) same ∙ at))) ∙ ap ticket_of holds)) in omega arith in
              (l.0, set_else s.views id (r.holder_of u) w other ∙ l.1, l.2);
          longest = (id, w, set_here s.views id w (at_length s.views id v at), tt, refl);
          away = λ e. absurd (subst is_on (sym e) tt);
          home = λ _. (o, ap (λ hs. get_elem? hs 0) homes ∙ set_here s.homes 0 (some (Some o)) (omega arith), based ∙ mine.based, refl);
        },
        λ o' c' held' named'. let same : o ≡ o' = ap (first_of o) (sym held ∙ held') in let caller : c ≡ c' = ap number (sym named ∙ named') in
            λ i. (left_with by v (caller i) (history (same i)), rest (held i)),
      )
