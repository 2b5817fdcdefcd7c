-- The steps of the lock that split, join, name and close.
use Rattle.std.proofs.Common.{◌≡◌, ◌≢◌, ℕ, zero, suc, ◌+◌, ◌<◌, Bool, true, false, eqb, List, [], ◌∷◌, ◌++◌, length, get_or, set, sym, refl, ap, ◌∙◌, subst, ◌⊎◌, inl, inr, ⊎_elim, arith, length-set, get_or-set_other, get_or-set_same, eq-eqb, ne_eqb, Option, Some, None}
use mathlib.Core.Logic.{dite}
use mathlib.Core.Option.{none, some, some-injective, some-ne-none}
use mathlib.Core.List.{append-nil}
use native.Mathlib.Decide.{ℕ_discrete, dec_le}
use lib.ListN.{get_elem?}
use lib.Seq.{set-get_or}
use prog.Atomic.{either}
use Rattle.atomic_table.specs.Table.{State, Me, step, keeps, gives, stepped, put_back, rest, opening, Final, Seen, Allows, Splits, Joins}
use Rattle.atomic_table.proofs.Lists.{at_set, set_here, set_else, set_again, at_longer, at_snoc}
use Rattle.ph_lock.specs.declared.knowledge.Stage.{Stage}
use Rattle.ph_lock.specs.declared.knowledge.Stage.TheVariants.{Idle, Holds, Closes}
use Rattle.ph_lock.specs.declared.knowledge.Knowledge.{Knowledge}
use Rattle.ph_lock.specs.Histories.{StartsWith, AllBelow, own_entries, longer}
use Rattle.ph_lock.specs.Rule.{ticket_of, IsLive}
use Rattle.ph_lock.specs.Steps.{with_stage, fresh_of, both_of, spent_of, forgetting, named_as, Tells, Takes, Shuts}
use Rattle.ph_lock.proofs.BySeat.{number, none_some, Stands, Fits, Kept}
use Rattle.ph_lock.proofs.Owns.{same_history, own_absent, own_before, own_between, prefix_le, longer_right, longer_left}
use Rattle.ph_lock.proofs.TurnSteps.{Longest, longest_set, is_on, at_length, apart_set, each_set, below_set, Each}

abbrev is_closing : {E : Type 0} → Stage E → Type 0
is_closing (Closes t h) = Unit {0}
is_closing _ = ⊥

abbrev closing : {E : Type 0} → Stage E → Stage E
closing (Holds t h) = Closes t h
closing st = st

module _ {O E B : Type 0} (base : O → B) (history : O → List E) (by : E → ℕ) (lawful : B → List E → Type 0) where
  abbrev K : Type 0
  K = Knowledge E B

  abbrev St : Type 0
  St = State (Option O) K

  abbrev M : Type 0
  M = Me (Option O) K

  abbrev Held : B → St → Type 0
  Held = Kept base history by lawful

  -- split: a new seat with the same front
  pub splits : (b : B) (id : ℕ) (v : K) → IsLive v.stage → Splits (Held b) id v v (fresh_of v)
  splits b id v lives s r at =
      let w : K = fresh_of v in let mine = r.each id v at lives in
      subst (λ (vs : List K). Held b record { words = s.words; homes = s.homes; views = vs ++ w ∷ [] }) (sym (set_again s.views id v at)) record {
        drawn = r.drawn;
        served = r.served;
        holder_of = r.holder_of;
        whole = r.whole;
        out = r.out;
        wide = r.wide;
        ticket_word = r.ticket_word;
        serving_word = r.serving_word;
        few = r.few;
        order = r.order;
        law = r.law;
        tops = r.tops;
        each = λ j u there lives'. ⊎_elim (λ old. r.each j u old lives')
            (λ (e : w ≡ u). subst (λ (z : K). Fits base history by lawful b r.served r.drawn r.holder_of r.whole (get_or s.words 2 0) j z) e
            (record { based = mine.based; seen = mine.seen; law = mine.law; owns = λ c n. absurd (none_some c n); kept = tt; nameless = λ _. refl; stands = tt }))
            (at_snoc s.views w u j there);
        apart = λ i j x y c ix jy cx cy. ⊎_elim
            (λ ox. ⊎_elim (λ oy. r.apart i j x y c ox oy cx cy) (λ (e : w ≡ y). absurd (none_some c (ap (λ (z : K). z.caller) e ∙ cy))) (at_snoc s.views w y j jy))
            (λ (e : w ≡ x). absurd (none_some c (ap (λ (z : K). z.caller) e ∙ cx))) (at_snoc s.views w x i ix);
        below = λ j x c there n. ⊎_elim (λ old. r.below j x c old n) (λ (e : w ≡ x). absurd (none_some c (ap (λ (z : K). z.caller) e ∙ n))) (at_snoc s.views w x j there);
        line = λ t from under. let l = r.line t from under in (l.0, at_longer s.views (w ∷ []) (r.holder_of t) l.0 l.1, l.2);
        longest = let l = r.longest in (l.0, l.1, at_longer s.views (w ∷ []) l.0 l.1 l.2, l.3, l.4);
        away = λ gone. let a = r.away gone in (a.0, a.1, a.2, at_longer s.views (w ∷ []) (r.holder_of r.served) a.0 a.3, a.4);
        home = r.home;
      }

  -- join: one pass takes in another
  front_of : (whole a d : List E) → StartsWith whole a → StartsWith whole d → StartsWith (longer a d) a × (StartsWith (longer a d) d × ((longer a d ≡ d) × StartsWith d a) ⊎ (StartsWith (longer a d) d × (longer a d ≡ a)))
  front_of whole a d s t = dite (dec_le (length a) (length d))
      (λ le. let p = prefix_le a d s.0 t.0 (sym s.1 ∙ t.1) le in let is = longer_right a d p in
      (subst (λ (l : List E). StartsWith l a) (sym is) p, inl (subst (λ (l : List E). StartsWith l d) (sym is) ([], sym (append-nil d)), (is, p))))
      (λ gt. let p = prefix_le d a t.0 s.0 (sym t.1 ∙ s.1) (omega arith) in let is = longer_left a d p in
      (subst (λ (l : List E). StartsWith l a) (sym is) ([], sym (append-nil a)), inr (subst (λ (l : List E). StartsWith l d) (sym is) p, is)))

  pub joins : (b blank : B) (id : ℕ) (v : K) (other : ℕ) (w : K) → v.stage ≡ Idle → w.stage ≡ Idle → Joins (Held b) id v other w (both_of v w) (spent_of blank)
  joins b blank id v other w idle idle' s r at apart there =
      let both : K = both_of v w in let spent : K = spent_of blank in let vs : List K = set s.views id both in
      let at_w : get_elem? s.views other ≡ some w = sym (set_else s.views id other both apart) ∙ there in
      let mine = r.each id v at (subst IsLive (sym idle) tt) in
      let theirs = r.each other w at_w (subst IsLive (sym idle') tt) in
      let f = front_of r.whole v.front w.front mine.seen theirs.seen in
      let not_v : (seat : ℕ) (u : K) (t : ℕ) → get_elem? s.views seat ≡ some u → ticket_of u.stage ≡ Some t → seat ≢ id =
      λ seat u t su tu same. none_some t (sym (ap ticket_of idle) ∙ (ap (λ (z : K). ticket_of z.stage) (some-injective v u (sym at ∙ (ap (get_elem? s.views) (sym same) ∙ su))) ∙ tu)) in
      let not_w : (seat : ℕ) (u : K) (t : ℕ) → get_elem? s.views seat ≡ some u → ticket_of u.stage ≡ Some t → seat ≢ other =
      λ seat u t su tu same. none_some t (sym (ap ticket_of idle') ∙ (ap (λ (z : K). ticket_of z.stage) (some-injective w u (sym at_w ∙ (ap (get_elem? s.views) (sym same) ∙ su))) ∙ tu)) in
      let stays : (seat : ℕ) (u : K) (t : ℕ) → get_elem? s.views seat ≡ some u → ticket_of u.stage ≡ Some t → get_elem? (set vs other spent) seat ≡ some u =
      λ seat u t su tu. set_else vs other seat spent (not_w seat u t su tu) ∙ (set_else s.views id seat both (not_v seat u t su tu) ∙ su) in
      let seen_both : StartsWith r.whole both.front = ⊎_elim (λ t. subst (StartsWith r.whole) (sym t.1.0) theirs.seen) (λ t. subst (StartsWith r.whole) (sym t.1) mine.seen) f.1 in
      let begins_w : StartsWith both.front w.front = ⊎_elim (λ t. t.0) (λ t. t.0) f.1 in
      let kept_long : StartsWith both.front r.whole → Longest base history by lawful (set vs other spent) r.whole =
      λ starts. (id, both, set_else vs other id spent (λ same. apart (sym same)) ∙ set_here s.views id both (at_length base history by lawful s.views id v at), subst IsLive (sym idle) tt, same_history r.whole both.front seen_both starts) in
      let P : ℕ → K → Type 0 = Each base history by lawful b s r.served r.drawn r.holder_of r.whole in
      record {
        drawn = r.drawn;
        served = r.served;
        holder_of = r.holder_of;
        whole = r.whole;
        out = r.out;
        wide = r.wide;
        ticket_word = r.ticket_word;
        serving_word = r.serving_word;
        few = r.few;
        order = r.order;
        law = r.law;
        tops = r.tops;
        each = each_set base history by lawful P P vs other spent (λ gone. absurd gone) (λ _ _ _ p. p)
            (each_set base history by lawful P P s.views id both
            (λ _. record {
              based = mine.based;
              seen = seen_both;
              law = ⊎_elim (λ t. subst (lawful b) (sym t.1.0) theirs.law) (λ t. subst (lawful b) (sym t.1) mine.law) f.1;
              owns = λ c n. let o = mine.owns c n in (o.0, ⊎_elim (λ t. ap (own_entries by c 1) t.1.0 ∙ own_between by c r.whole w.front v.front v.mine theirs.seen t.1.1 o.0 o.1) (λ t. ap (own_entries by c 1) t.1 ∙ o.1) f.1, o.2);
              kept = (f.0, (begins_w, tt));
              nameless = mine.nameless;
              stands = subst (Stands r.served r.drawn r.holder_of r.whole v.caller id) (sym idle) tt;
            })
            (λ _ _ _ p. p) r.each);
        apart = λ i j x y c ix jy cx cy.
            let back : (k : ℕ) (z : K) → get_elem? (set vs other spent) k ≡ some z → z.caller ≡ Some c → get_elem? vs k ≡ some z = λ k z kz cz. ⊎_elim
            (λ (t : (k ≡ other) × (spent ≡ z)). absurd (none_some c (ap (λ (u : K). u.caller) t.1 ∙ cz))) (λ (t : (k ≢ other) × (get_elem? vs k ≡ some z)). t.1) (at_set vs other k spent z kz) in
            apart_set base history by lawful s.views id v both at refl r.apart i j x y c (back i x ix cx) (back j y jy cy) cx cy;
        below = λ j x c jx n. ⊎_elim
            (λ (t : (j ≡ other) × (spent ≡ x)). absurd (none_some c (ap (λ (u : K). u.caller) t.1 ∙ n)))
            (λ (t : (j ≢ other) × (get_elem? vs j ≡ some x)). below_set base history by lawful s.views id v both at refl r.below j x c t.1 n) (at_set vs other j spent x jx);
        line = λ t from under. let l = r.line t from under in (l.0, stays (r.holder_of t) l.0 t l.1 l.2, l.2);
        longest = dite (ℕ_discrete r.longest.0 id)
            (λ e. let is : v ≡ r.longest.1 = some-injective v r.longest.1 (sym at ∙ (ap (get_elem? s.views) (sym e) ∙ r.longest.2)) in
            kept_long (subst (StartsWith both.front) (ap (λ (u : K). u.front) is ∙ r.longest.4) f.0))
            (λ ne. dite (ℕ_discrete r.longest.0 other)
            (λ e. let is : w ≡ r.longest.1 = some-injective w r.longest.1 (sym at_w ∙ (ap (get_elem? s.views) (sym e) ∙ r.longest.2)) in
            kept_long (subst (StartsWith both.front) (ap (λ (u : K). u.front) is ∙ r.longest.4) begins_w))
            (λ no_w. (r.longest.0, r.longest.1, set_else vs other r.longest.0 spent no_w ∙ (set_else s.views id r.longest.0 both ne ∙ r.longest.2), r.longest.3, r.longest.4)));
        away = λ gone. let a = r.away gone in (a.0, a.1, a.2, stays (r.holder_of r.served) a.0 a.1 a.3 (ap ticket_of a.4), a.4);
        home = r.home;
      }

  -- tell: what was taken in begins the front
  pub tells : (b : B) (id : ℕ) (m : M) → m.0.stage ≡ Idle → Allows (Held b) 1 id m 1 (λ n. n) (Tells by lawful (step 1 1 0 0 none) m)
  tells b id m idle s r long at small =
      let v : K = m.0 in let w : K = forgetting v in let mine = r.each id v at (subst IsLive (sym idle) tt) in
      let not_v : (seat : ℕ) (u : K) (t : ℕ) → get_elem? s.views seat ≡ some u → ticket_of u.stage ≡ Some t → seat ≢ id =
      λ seat u t su tu same. none_some t (sym (ap ticket_of idle) ∙ (ap (λ (z : K). ticket_of z.stage) (some-injective v u (sym at ∙ (ap (get_elem? s.views) (sym same) ∙ su))) ∙ tu)) in
      let P : ℕ → K → Type 0 = Each base history by lawful b s r.served r.drawn r.holder_of r.whole in (
        w,
        keeps,
        tt,
        subst (λ (ws : List ℕ). Held b record { words = ws; homes = s.homes; views = set s.views id w }) (sym (set-get_or s.words 1 0)) record {
          drawn = r.drawn;
          served = r.served;
          holder_of = r.holder_of;
          whole = r.whole;
          out = r.out;
          wide = r.wide;
          ticket_word = r.ticket_word;
          serving_word = r.serving_word;
          few = r.few;
          order = r.order;
          law = r.law;
          tops = r.tops;
          each = each_set base history by lawful P P s.views id w (λ _. record { based = mine.based; seen = mine.seen; law = mine.law; owns = mine.owns; kept = tt; nameless = mine.nameless; stands = mine.stands }) (λ _ _ _ p. p) r.each;
          apart = apart_set base history by lawful s.views id v w at refl r.apart;
          below = below_set base history by lawful s.views id v w at refl r.below;
          line = λ t from under. let l = r.line t from under in (l.0, set_else s.views id (r.holder_of t) w (not_v (r.holder_of t) l.0 t l.1 l.2) ∙ l.1, l.2);
          longest = longest_set base history by lawful s.views id v w r.whole at (subst IsLive (sym idle) tt) refl r.longest;
          away = λ gone. let a = r.away gone in (a.0, a.1, a.2, set_else s.views id (r.holder_of r.served) w (not_v (r.holder_of r.served) a.0 a.1 a.3 (ap ticket_of a.4)) ∙ a.3, a.4);
          home = r.home;
        },
        (record { remembered = mine.kept; legal = subst (λ (z : B). lawful z v.front) (sym mine.based) mine.law; own = λ name is. let o = mine.owns name is in o.1 }, refl),
      )

  all_below_more : (n : ℕ) (xs : List E) → AllBelow by n xs → AllBelow by (n + 1) xs
  all_below_more n [] all = tt
  all_below_more n (x ∷ xs) all = let l = all.0 in (omega arith, all_below_more n xs all.1)

  -- name: the seat takes the number that it found for its caller
  pub names : (b : B) (id : ℕ) (m : M) (n : ℕ) → m.0.stage ≡ Idle → m.0.caller ≡ None → n < 4611686018427387904 → Allows (Held b) 1 id m 2 (λ x. either (eqb x n) (n + 1) x) (Takes by (step 1 2 n (n + 1) none) m)
  names b id m n idle nameless_is few s r long at small =
      let v : K = m.0 in let x : ℕ = get_or s.words 2 0 in let w : K = named_as v x in let mine = r.each id v at (subst IsLive (sym idle) tt) in let wide = r.wide in
      let not_v : (seat : ℕ) (u : K) (t : ℕ) → get_elem? s.views seat ≡ some u → ticket_of u.stage ≡ Some t → seat ≢ id =
      λ seat u t su tu same. none_some t (sym (ap ticket_of idle) ∙ (ap (λ (z : K). ticket_of z.stage) (some-injective v u (sym at ∙ (ap (get_elem? s.views) (sym same) ∙ su))) ∙ tu)) in
      let top : get_or (set s.words 2 (n + 1)) 2 0 ≡ n + 1 = get_or-set_same s.words 2 (n + 1) 0 (omega arith) in
      dite (ℕ_discrete x n)
      (λ hit. (
        w,
        keeps,
        tt,
        subst (λ bb. Held b (stepped s 2 (either bb (n + 1) x) id m.1 w keeps)) (sym (eq-eqb x n hit)) record {
          drawn = r.drawn;
          served = r.served;
          holder_of = r.holder_of;
          whole = r.whole;
          out = r.out;
          wide = length-set s.words 2 (n + 1) ∙ wide;
          ticket_word = get_or-set_other s.words 2 0 (n + 1) 0 (λ e. omega arith) ∙ r.ticket_word;
          serving_word = get_or-set_other s.words 2 1 (n + 1) 0 (λ e. omega arith) ∙ r.serving_word;
          few = omega arith;
          order = r.order;
          law = r.law;
          tops = subst (λ (k : ℕ). AllBelow by k r.whole) (sym top) (subst (λ (k : ℕ). AllBelow by (k + 1) r.whole) hit (all_below_more x r.whole r.tops));
          each = subst (λ (k : ℕ). (j : ℕ) (u : K) → get_elem? (set s.views id w) j ≡ some u → IsLive u.stage → Fits base history by lawful b r.served r.drawn r.holder_of r.whole k j u) (sym top)
              (each_set base history by lawful (λ j u. IsLive u.stage → Fits base history by lawful b r.served r.drawn r.holder_of r.whole x j u) (λ j u. IsLive u.stage → Fits base history by lawful b r.served r.drawn r.holder_of r.whole (n + 1) j u) s.views id w
              (λ _.
              let absent : own_entries by x 1 r.whole ≡ v.mine = own_absent by x 1 r.whole r.tops ∙ sym (mine.nameless nameless_is) in
              let absent' : own_entries by x 1 v.front ≡ v.mine = own_before by x r.whole v.front mine.seen (own_absent by x 1 r.whole r.tops) ∙ sym (mine.nameless nameless_is) in
              record {
                based = mine.based;
                seen = mine.seen;
                law = mine.law;
                owns = λ c e. let is : x ≡ c = ap number e in (ap (λ (k : ℕ). own_entries by k 1 r.whole) (sym is) ∙ absent, ap (λ (k : ℕ). own_entries by k 1 v.front) (sym is) ∙ absent', omega arith);
                kept = mine.kept;
                nameless = λ e. absurd (none_some x (sym e));
                stands = subst (Stands r.served r.drawn r.holder_of r.whole (Some x) id) (sym idle) tt;
              })
              (λ j u ne g lives. let f = g lives in record { based = f.based; seen = f.seen; law = f.law; owns = λ c e. let o = f.owns c e in let l = o.2 in (o.0, o.1, omega arith); kept = f.kept; nameless = f.nameless; stands = f.stands })
              r.each);
          apart = λ i j a y c ia jy ca cy. ⊎_elim
              (λ (t : (i ≡ id) × (w ≡ a)). ⊎_elim
              (λ (u : (j ≡ id) × (w ≡ y)). t.0 ∙ sym u.0)
              (λ (u : (j ≢ id) × (get_elem? s.views j ≡ some y)). let is : x ≡ c = ap number (ap (λ (z : K). z.caller) t.1 ∙ ca) in let l = r.below j y c u.1 cy in absurd (omega arith))
              (at_set s.views id j w y jy))
              (λ (t : (i ≢ id) × (get_elem? s.views i ≡ some a)). ⊎_elim
              (λ (u : (j ≡ id) × (w ≡ y)). let is : x ≡ c = ap number (ap (λ (z : K). z.caller) u.1 ∙ cy) in let l = r.below i a c t.1 ca in absurd (omega arith))
              (λ (u : (j ≢ id) × (get_elem? s.views j ≡ some y)). r.apart i j a y c t.1 u.1 ca cy)
              (at_set s.views id j w y jy))
              (at_set s.views id i w a ia);
          below = λ j a c ja ca. subst (λ (k : ℕ). c < k) (sym top) (⊎_elim
              (λ (t : (j ≡ id) × (w ≡ a)). let is : x ≡ c = ap number (ap (λ (z : K). z.caller) t.1 ∙ ca) in omega arith)
              (λ (t : (j ≢ id) × (get_elem? s.views j ≡ some a)). let l = r.below j a c t.1 ca in omega arith)
              (at_set s.views id j w a ja));
          line = λ t from under. let l = r.line t from under in (l.0, set_else s.views id (r.holder_of t) w (not_v (r.holder_of t) l.0 t l.1 l.2) ∙ l.1, l.2);
          longest = longest_set base history by lawful s.views id v w r.whole at (subst IsLive (sym idle) tt) refl r.longest;
          away = λ gone. let a = r.away gone in (a.0, a.1, a.2, set_else s.views id (r.holder_of r.served) w (not_v (r.holder_of r.served) a.0 a.1 a.3 (ap ticket_of a.4)) ∙ a.3, a.4);
          home = r.home;
        },
        ((λ _. (refl, own_before by x r.whole v.front mine.seen (own_absent by x 1 r.whole r.tops))), λ miss. absurd (miss hit)),
      ))
      (λ miss. (
        v,
        keeps,
        tt,
        subst (λ bb. Held b (stepped s 2 (either bb (n + 1) x) id m.1 v keeps)) (sym (ne_eqb x n miss))
            (subst (λ (ws : List ℕ). Held b record { words = ws; homes = s.homes; views = set s.views id v }) (sym (set-get_or s.words 2 0))
            (subst (λ (vs : List K). Held b record { words = s.words; homes = s.homes; views = vs }) (sym (set_again s.views id v at)) r)),
        ((λ hit. absurd (miss hit)), λ _. refl),
      ))

  -- shut: the slot is given back, and the turn is kept
  pub shuts : (b : B) (id : ℕ) (m : M) (t : ℕ) (h : List E) (o : O) → m.0.stage ≡ Holds t h → m.1 ≡ (0, Some o) ∷ [] → history o ≡ h → base o ≡ m.0.base
      → Allows (Held b) 1 id m 1 (λ n. n) (Shuts (step 1 1 0 0 none) m)
  shuts b id m t h o holds held same_history based s r long at small =
      let v : K = m.0 in let w : K = with_stage v (Closes t h) in let mine = r.each id v at (subst IsLive (sym holds) tt) in
      let k = subst (Stands r.served r.drawn r.holder_of r.whole v.caller id) holds mine.stands in
      let P : ℕ → K → Type 0 = Each base history by lawful b s r.served r.drawn r.holder_of r.whole in
      let here = set_here s.views id w (at_length base history by lawful s.views id v at) in
      let homes : put_back s.homes m.1 ≡ set s.homes 0 (some (Some o)) = ap (put_back s.homes) held in (
        w,
        gives,
        tt,
        subst (λ (ws : List ℕ). Held b record { words = ws; homes = put_back s.homes m.1; views = set s.views id w }) (sym (set-get_or s.words 1 0)) record {
          drawn = r.drawn;
          served = r.served;
          holder_of = r.holder_of;
          whole = r.whole;
          out = false;
          wide = r.wide;
          ticket_word = r.ticket_word;
          serving_word = r.serving_word;
          few = r.few;
          order = r.order;
          law = r.law;
          tops = r.tops;
          each = each_set base history by lawful P P s.views id w (λ _. record { based = mine.based; seen = mine.seen; law = mine.law; owns = mine.owns; kept = mine.kept; nameless = mine.nameless; stands = k }) (λ _ _ _ p. p) r.each;
          apart = apart_set base history by lawful s.views id v w at refl r.apart;
          below = below_set base history by lawful s.views id v w at refl r.below;
          line = λ u from under. dite (ℕ_discrete u t)
              (λ e. (w, ap (get_elem? (set s.views id w)) (ap r.holder_of e ∙ k.2) ∙ here, ap (λ (n : ℕ). Some n) (sym e)))
              (λ ne. let l = r.line u from under in
              let other : r.holder_of u ≢ id = λ same. ne (ap number (sym l.2 ∙ (ap (λ (x : K). ticket_of x.stage) (some-injective l.0 v (sym l.1 ∙ (ap (get_elem? s.views) same ∙ at))) ∙ ap ticket_of holds))) in
              (l.0, set_else s.views id (r.holder_of u) w other ∙ l.1, l.2));
          longest = longest_set base history by lawful s.views id v w r.whole at tt refl r.longest;
          away = λ e. absurd (subst is_on (sym e) tt);
          home = λ _. (o, ap (λ hs. get_elem? hs 0) homes ∙ set_here s.homes 0 (some (Some o)) (omega arith), based ∙ mine.based, same_history ∙ k.4);
        },
        λ t' h' holds'. λ i. (with_stage v (closing ((sym holds ∙ holds') i)), rest m.1),
      )

  only : (v u : K) (j : ℕ) → get_elem? (v ∷ []) j ≡ some u → (j ≡ 0) × (v ≡ u)
  only v u zero e = (refl, some-injective v u e)
  only v u (suc j) e = absurd (some-ne-none u (sym e))

  -- a new lock
  pub opens : (o : O) (top : ℕ) → lawful (base o) (history o) → top < 4611686018427387904 → AllBelow by top (history o)
      → Held (base o) (opening (0 ∷ 0 ∷ (top + 1) ∷ []) (Some o ∷ []) (record { base = base o; caller = Some top; front = history o; mine = []; remembered = []; stage = Idle }))
  opens o top is_lawful small all =
      let v : K = record { base = base o; caller = Some top; front = history o; mine = []; remembered = []; stage = Idle } in
      let absent = own_absent by top 1 (history o) all in record {
        drawn = 0;
        served = 0;
        holder_of = λ _. 0;
        whole = history o;
        out = false;
        wide = refl;
        ticket_word = refl;
        serving_word = refl;
        few = omega arith;
        order = omega arith;
        law = is_lawful;
        tops = all_below_more top (history o) all;
        each = λ j u there lives. let is = only v u j there in subst (λ (z : K). Fits base history by lawful (base o) 0 0 (λ _. 0) (history o) (top + 1) j z) is.1
            (record {
              based = refl;
              seen = ([], sym (append-nil (history o)));
              law = is_lawful;
              owns = λ c e. let same : top ≡ c = ap number e in (ap (λ (k : ℕ). own_entries by k 1 (history o)) (sym same) ∙ absent, ap (λ (k : ℕ). own_entries by k 1 (history o)) (sym same) ∙ absent, omega arith);
              kept = tt;
              nameless = λ _. refl;
              stands = tt;
            });
        apart = λ i j x y c ix jy cx cy. let a = only v x i ix in let d = only v y j jy in a.0 ∙ sym d.0;
        below = λ j x c there n. let is = only v x j there in let same : top ≡ c = ap number (ap (λ (z : K). z.caller) is.1 ∙ n) in omega arith;
        line = λ t from under. absurd (omega arith);
        longest = (0, v, refl, tt, refl);
        away = λ e. absurd (subst is_on (sym e) tt);
        home = λ _. (o, refl, refl, refl);
      }

  -- the object that the last state has at home
  closes_by : (out : Bool) (b : B) (id : ℕ) (v : K) (t : ℕ) (h : List E) (xs : List (Option O)) (s : St) (r : Held b s) → v.stage ≡ Closes t h → get_elem? s.views id ≡ some v → ((k : ℕ) (y : Option O) → get_elem? s.homes k ≡ some (some y) → get_elem? xs k ≡ some y)
      → r.out ≡ out → (o : O) × (get_elem? xs 0 ≡ some (Some o)) × (base o ≡ v.base) × (history o ≡ h)
  closes_by true b id v t h xs s r closes at values is =
      let mine = r.each id v at (subst IsLive (sym closes) tt) in
      let k = subst (Stands r.served r.drawn r.holder_of r.whole v.caller id) closes mine.stands in
      let a = r.away is in
      let same : a.0 ≡ v = some-injective a.0 v (sym a.3 ∙ (ap (get_elem? s.views) (ap r.holder_of (sym k.0) ∙ k.2) ∙ at)) in
      absurd (subst is_closing (sym closes ∙ (ap (λ (u : K). u.stage) (sym same) ∙ a.4)) tt)
  closes_by false b id v t h xs s r closes at values is =
      let mine = r.each id v at (subst IsLive (sym closes) tt) in
      let k = subst (Stands r.served r.drawn r.holder_of r.whole v.caller id) closes mine.stands in
      let o = r.home is in
      (o.0, values 0 (Some o.0) o.1, o.2 ∙ sym mine.based, o.3 ∙ sym k.4)

  pub closes : (b : B) (id : ℕ) (v : K) (t : ℕ) (h : List E) (ws : List ℕ) (xs : List (Option O)) → v.stage ≡ Closes t h → Final (Seen (Held b) id v) ws xs
      → (o : O) × (get_elem? xs 0 ≡ some (Some o)) × (base o ≡ v.base) × (history o ≡ h)
  closes b id v t h ws xs closes_is f = closes_by f.1.0.out b id v t h xs f.0 f.1.0 closes_is f.1.1 f.4 refl
