-- What an act leaves, by what the object answered.
use Rattle.std.proofs.Common.{◌≡◌, ◌∷◌, ℕ, List, [], ◌++◌, ◌<◌, Some, Result, Ok, Err, IfOk, IfErr, IsErr, sym, refl, ap, ◌∙◌, subst, inl, inr}
use Rattle.std.proofs.lemmas.List.{append_assoc}
use Rattle.ph_lock.specs.declared.knowledge.Stage.TheVariants.{Idle}
use Rattle.ph_lock.specs.declared.knowledge.Knowledge.{Knowledge}
use Rattle.ph_lock.specs.Histories.{StartsWith, NoneOf, AllBelow, own_entries}
use Rattle.ph_lock.specs.Seats.{IsSeatOf}
use Rattle.ph_lock.specs.Added.{Added}
use Rattle.ph_lock.specs.Passes.{Shown, Entered}
use Rattle.ph_lock.specs.Steps.{IsHistoryOf, Found}
use Rattle.ph_lock.proofs.Owns.{own_more, own_absent, others_only}

never_err : (A X : Type 0) (a : A) → ¬ (IsErr {T = A} {E = X} (Ok a))
never_err A X a e = cc

module _ {O E B A : Type 0} (base : O → B) (history : O → List E) (by : E → ℕ) (lawful : B → List E → Type 0) (allows : B → List E → ℕ → A → Type 0)
    (stays : (b : B) (h more : List E) (c : ℕ) (a : A) → NoneOf by c more → allows b h c a → allows b (h ++ more) c a) where
  -- what a pass's front allowed, the object's history allows as the turn begins
  pub still_allowed : (v : Knowledge E B) (pass : Shown E B) (object : O) (act : A) → v.caller ≡ Some pass.caller → v.base ≡ pass.base → v.front ≡ pass.front → Found base history by lawful v object
      → allows pass.base pass.front pass.caller act → allows (base object) (history object) pass.caller act
  still_allowed v pass object act named based at found allowed =
      let own = found.own pass.caller named in
      let none = others_only by pass.caller (history object) v.front v.mine found.seen own.0 own.1 in
      let here : allows v.base v.front pass.caller act = subst (λ (z : B). allows z v.front pass.caller act) (sym based) (subst (λ (l : List E). allows pass.base l pass.caller act) (sym at) allowed) in
      subst (λ (z : B). allows z (history object) pass.caller act) (sym found.base_is) (subst (λ (l : List E). allows v.base l pass.caller act) (sym found.seen.1)
      (stays v.base v.front found.seen.0 pass.caller act none here))

module _ {O E B : Type 0} (base : O → B) (history : O → List E) (by : E → ℕ) (lawful : B → List E → Type 0) where
  -- what is found of one object is found of another of the same base and history
  pub found_again : (v : Knowledge E B) (one other : O) → base other ≡ v.base → history other ≡ history one → Found base history by lawful v one → Found base history by lawful v other
  found_again v one other based same found = record {
    base_is = based;
    legal = subst (lawful v.base) (sym same) found.legal;
    seen = subst (λ (l : List E). StartsWith l v.front) (sym same) found.seen;
    own = λ name is. let own = found.own name is in (ap (own_entries by name 1) same ∙ own.0, own.1);
  }

module _ {E S B : Type 0} (by : E → ℕ) (lawful : B → List E → Type 0) where
  -- the first seat of a lock is a pass's
  pub first_seat : (me : Knowledge E B × List (ℕ × S)) (b : B) (name : ℕ) (h : List E) → me ≡ (record { base = b; caller = Some name; front = h; mine = []; remembered = []; stage = Idle }, []) → name < 4611686018427387904
      → lawful b h → AllBelow by name h → IsSeatOf by lawful name me
  first_seat me b name h is small legal above = subst (IsSeatOf by lawful name) (sym is)
      (record { named = refl; small = small; idle = refl; empty = refl; legal = legal; own = own_absent by name 1 h above })

module _ {Entry Base Deed Act Answer : Type 0} (by : Entry → ℕ) (deed : Entry → Deed) (deed_of : Act → Deed) (answers : Base → List Entry → Entry → Answer → Type 0)
    (full : Base → List Entry → Act → Type 0) (b : Base) (before after : List Entry) (caller : ℕ) (act : Act) where
  -- the object's history stayed, or has one entry more
  pub history_of : {X : Type 0} (r : Result Answer X) (P : X → Type 0) → IfOk r (λ answer. Added by deed deed_of answers b before after caller act answer)
      → IfErr r (λ x. P x × (after ≡ before)) → IsHistoryOf by caller before after
  history_of (Ok answer) P ok err = inr (ok.entry, ok.of_caller, ok.at_end)
  history_of (Err x) P ok err = inl err.1

  -- it begins with what the pass had seen
  pub begins_with : {X : Type 0} (r : Result Answer X) (P : X → Type 0) (front : List Entry) → StartsWith before front → IfOk r (λ answer. Added by deed deed_of answers b before after caller act answer)
      → IfErr r (λ x. P x × (after ≡ before)) → StartsWith after front
  begins_with (Ok answer) P front seen ok err = (seen.0 ++ ok.entry ∷ [], ok.at_end ∙ (ap (λ (l : List Entry). l ++ ok.entry ∷ []) seen.1 ∙ append_assoc front seen.0 (ok.entry ∷ [])))
  begins_with (Err x) P front seen ok err = subst (λ (l : List Entry). StartsWith l front) (sym err.1) seen

  -- the pass has the entry
  pub entered : (X : Type 0) (r : Result Answer X) (old new : Shown Entry Base) → b ≡ old.base → caller ≡ old.caller → new.front ≡ after → new.mine ≡ own_entries by caller 1 after
      → own_entries by caller 1 before ≡ old.mine → StartsWith before old.front → (full b before act → IsErr r)
      → IfOk r (λ answer. Added by deed deed_of answers b before after caller act answer) → IfOk r (λ answer. Entered by deed deed_of answers full old new act answer)
  entered X (Ok answer) old new based named front mine own_is seen no_room ok = record {
    before = before;
    entry = ok.entry;
    seen = seen;
    of_caller = ok.of_caller ∙ named;
    of_act = ok.of_act;
    front = front ∙ ok.at_end;
    mine = mine ∙ own_more by caller before after old.mine ok.entry own_is ok.of_caller ok.at_end;
    answered = subst (λ (z : Base). answers z before ok.entry answer) based ok.answered;
    room = λ is_full. never_err Answer X answer (no_room (subst (λ (z : Base). full z before act) (sym based) is_full));
  }
  entered X (Err x) old new based named front mine own_is seen no_room ok = tt

  -- where the act was refused, a fact of the history that it found holds of the pass's front
  pub refused : {X : Type 0} (r : Result Answer X) (P : X → Type 0) (Q : Base → List Entry → Type 0) (base : Base) (front : List Entry) → base ≡ b → front ≡ after → Q b before
      → IfErr r (λ x. P x × (after ≡ before)) → IfErr r (λ _. Q base front)
  refused (Ok answer) P Q base front based at holds err = tt
  refused (Err x) P Q base front based at holds err = subst (λ (z : Base). Q z front) (sym based) (subst (λ (l : List Entry). Q b l) (sym (at ∙ err.1)) holds)
