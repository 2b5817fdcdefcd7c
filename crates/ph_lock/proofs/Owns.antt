-- One caller's entries in a history that grows.
use Rattle.std.proofs.Common.{◌≡◌, ◌≢◌, ℕ, suc, ◌+◌, ◌≤◌, Bool, true, false, cond, eqb, List, [], ◌∷◌, ◌++◌, length, sym, refl, ap, ◌∙◌, subst, arith, eq-eqb, ne_eqb}
use mathlib.Core.Logic.{dite}
use native.Mathlib.Decide.{ℕ_discrete}
use mathlib.Core.List.{append-nil}
use Rattle.std.proofs.lemmas.List.{append_assoc}
use Rattle.ph_lock.specs.Histories.{StartsWith, NoneOf, AllBelow, own_entries, longer}

abbrev is_empty : {A : Type 0} → List A → Type 0
is_empty [] = Unit {0}
is_empty (x ∷ xs) = ⊥

abbrev tail_of : {A : Type 0} → List A → List A
tail_of [] = []
tail_of (x ∷ xs) = xs

cancel : {A : Type 0} (xs ys : List A) → xs ++ ys ≡ xs → ys ≡ []
cancel [] ys e = e
cancel (x ∷ xs) ys e = cancel xs ys (ap tail_of e)

nothing_before : {A : Type 0} (xs ys : List A) → xs ++ ys ≡ [] → xs ≡ []
nothing_before [] ys e = refl
nothing_before (x ∷ xs) ys e = absurd (subst is_empty (sym e) tt)

abbrev head_or : {A : Type 0} → A → List A → A
head_or d [] = d
head_or d (x ∷ xs) = x

-- of two beginnings of one history the shorter begins the longer
pub prefix_le : {E : Type 0} (a b r q : List E) → a ++ r ≡ b ++ q → length a ≤ length b → StartsWith b a
prefix_le [] b r q e l = (b, refl)
prefix_le (x ∷ xs) [] r q e l = absurd (omega arith)
prefix_le (x ∷ xs) (y ∷ ys) r q e l =
    let p = prefix_le xs ys r q (ap tail_of e) (omega arith) in
    let h : x ≡ y = ap (head_or x) e in
    (p.0, λ i. sym h i ∷ p.1 i)

-- two histories that begin with each other are one
pub same_history : {E : Type 0} (a b : List E) → StartsWith a b → StartsWith b a → b ≡ a
same_history a b s t =
    let all : a ++ (t.0 ++ s.0) ≡ a = sym (append_assoc a t.0 s.0) ∙ (ap (λ l. l ++ s.0) (sym t.1) ∙ sym s.1) in
    t.1 ∙ (ap (λ l. a ++ l) (nothing_before t.0 s.0 (cancel a (t.0 ++ s.0) all)) ∙ append-nil a)

longer_more : {E : Type 0} (a r : List E) → longer a (a ++ r) ≡ a ++ r
longer_more [] r = refl
longer_more (x ∷ xs) r = ap (λ l. x ∷ l) (longer_more xs r)

longer_less : {E : Type 0} (a r : List E) → longer (a ++ r) a ≡ a ++ r
longer_less [] [] = refl
longer_less [] (x ∷ r) = refl
longer_less (x ∷ xs) r = ap (λ l. x ∷ l) (longer_less xs r)

pub longer_right : {E : Type 0} (a b : List E) → StartsWith b a → longer a b ≡ b
longer_right a b s = ap (longer a) s.1 ∙ (longer_more a s.0 ∙ sym s.1)

pub longer_left : {E : Type 0} (a b : List E) → StartsWith a b → longer a b ≡ a
longer_left a b s = ap (λ l. longer l b) s.1 ∙ (longer_less b s.0 ∙ sym s.1)

module _ {E : Type 0} (by : E → ℕ) (c : ℕ) where
  step : (b : Bool) (n : ℕ) (e : E) (xs ys : List (ℕ × E)) → cond b ((n, e) ∷ (xs ++ ys)) (xs ++ ys) ≡ cond b ((n, e) ∷ xs) xs ++ ys
  step true n e xs ys = refl
  step false n e xs ys = refl

  pub own-append : (n : ℕ) (xs ys : List E) → own_entries by c n (xs ++ ys) ≡ own_entries by c n xs ++ own_entries by c (length xs + n) ys
  own-append n [] ys = let is : n ≡ length {A = E} [] + n = omega arith in ap (λ k. own_entries by c k ys) is
  own-append n (x ∷ xs) ys =
      let tail = own-append (suc n) xs ys in
      let shift : length xs + suc n ≡ suc (length xs) + n = omega arith in
      ap (λ l. cond (eqb (by x) c) ((n, x) ∷ l) l) (tail ∙ ap (λ k. own_entries by c (suc n) xs ++ own_entries by c k ys) shift)
      ∙ step (eqb (by x) c) n x (own_entries by c (suc n) xs) (own_entries by c (suc (length xs) + n) ys)

  pub own_same : (n : ℕ) (e : E) → by e ≡ c → own_entries by c n (e ∷ []) ≡ (n, e) ∷ []
  own_same n e is = ap (λ b. cond b ((n, e) ∷ []) []) (eq-eqb (by e) c is)

  pub own_other : (n : ℕ) (e : E) → by e ≢ c → own_entries by c n (e ∷ []) ≡ []
  own_other n e ne = ap (λ b. cond b ((n, e) ∷ []) []) (ne_eqb (by e) c ne)

  pub own_none : (n : ℕ) (xs : List E) → own_entries by c n xs ≡ [] → NoneOf by c xs
  own_none n [] e = tt
  own_none n (x ∷ xs) e = dite (ℕ_discrete (by x) c)
      (λ is. absurd (subst is_empty (sym e ∙ ap (λ b. cond b ((n, x) ∷ own_entries by c (suc n) xs) (own_entries by c (suc n) xs)) (eq-eqb (by x) c is)) tt))
      (λ ne. (ne, own_none (suc n) xs (sym (ap (λ b. cond b ((n, x) ∷ own_entries by c (suc n) xs) (own_entries by c (suc n) xs)) (ne_eqb (by x) c ne)) ∙ e)))

  -- what was added to the front has no entry of the caller, where the caller's list stayed
  pub others_only : (whole front : List E) (mine : List (ℕ × E)) (s : StartsWith whole front) → own_entries by c 1 whole ≡ mine → own_entries by c 1 front ≡ mine → NoneOf by c s.0
  others_only whole front mine s a b = own_none (length front + 1) s.0
      (cancel (own_entries by c 1 front) (own_entries by c (length front + 1) s.0) (sym (own-append 1 front s.0) ∙ (ap (own_entries by c 1) (sym s.1) ∙ (a ∙ sym b))))

  -- the caller's list after one more entry
  pub own_more : (h after : List E) (mine : List (ℕ × E)) (e : E) → own_entries by c 1 h ≡ mine → by e ≡ c → after ≡ h ++ e ∷ [] → own_entries by c 1 after ≡ mine ++ (length h + 1, e) ∷ []
  own_more h after mine e own_is is more = ap (own_entries by c 1) more ∙ (own-append 1 h (e ∷ []) ∙ (ap (λ l. l ++ own_entries by c (length h + 1) (e ∷ [])) own_is ∙ ap (λ l. mine ++ l) (own_same (length h + 1) e is)))

  -- between a front and the whole the caller has no entry more
  pub own_between : (whole middle front : List E) (mine : List (ℕ × E)) → StartsWith whole middle → StartsWith middle front → own_entries by c 1 whole ≡ mine → own_entries by c 1 front ≡ mine → own_entries by c 1 middle ≡ mine
  own_between whole middle front mine s t a b =
      let x = own_entries by c (length front + 1) t.0 in
      let y = own_entries by c (length middle + 1) s.0 in
      let mid : own_entries by c 1 middle ≡ own_entries by c 1 front ++ x = ap (own_entries by c 1) t.1 ∙ own-append 1 front t.0 in
      let all : (own_entries by c 1 front ++ x) ++ y ≡ own_entries by c 1 front = ap (λ l. l ++ y) (sym mid) ∙ (sym (own-append 1 middle s.0) ∙ (ap (own_entries by c 1) (sym s.1) ∙ (a ∙ sym b))) in
      let none : x ≡ [] = nothing_before x y (cancel (own_entries by c 1 front) (x ++ y) (sym (append_assoc (own_entries by c 1 front) x y) ∙ all)) in
      mid ∙ (ap (λ l. own_entries by c 1 front ++ l) none ∙ (append-nil (own_entries by c 1 front) ∙ b))

  -- a caller above all has no entry
  pub own_absent : (n : ℕ) (xs : List E) → AllBelow by c xs → own_entries by c n xs ≡ []
  own_absent n [] all = refl
  own_absent n (x ∷ xs) all = let l = all.0 in
      ap (λ b. cond b ((n, x) ∷ own_entries by c (suc n) xs) (own_entries by c (suc n) xs)) (ne_eqb (by x) c (λ e. omega arith)) ∙ own_absent (suc n) xs all.1

  pub own_before : (whole front : List E) → StartsWith whole front → own_entries by c 1 whole ≡ [] → own_entries by c 1 front ≡ []
  own_before whole front s e = nothing_before (own_entries by c 1 front) (own_entries by c (length front + 1) s.0) (sym (own-append 1 front s.0) ∙ (ap (own_entries by c 1) (sym s.1) ∙ e))
