-- What acts leave of what is known: of a book alone, and by a pass of a lock.
use Rattle.std.proofs.Common.{◌≡◌, ℕ, ◌+◌, ◌^◌, ◌<◌, ◌∷◌, ◌++◌, List, [], length, map, IsTrue, refl, sym, ap, ◌∙◌, subst, arith}
use Rattle.std.proofs.lemmas.List.{append_cancel_right, length-map, map-append}
use Rattle.ph_lock.specs.Histories.{StartsWith, NoneOf, own_entries}
use Rattle.ph_lock.specs.Passes.{Shown, IsPass, SamePass}
use Rattle.ph_lock.specs.Passes as passes
use Rattle.ph_lock.proofs.Owns as owns
use Rattle.ph_book.specs.declared.acts.Act.{Act}
use Rattle.ph_book.specs.declared.acts.Answer.{Answer}
use Rattle.ph_book.specs.declared.acts.Entry.{Entry}
use Rattle.ph_book.specs.declared.hosted.Kept.{Kept}
use Rattle.ph_book.specs.declared.hosted.Kept.TheVariants as kept
use Rattle.ph_book.specs.declared.setup.Setup.{Setup}
use Rattle.ph_book.specs.Callers.{caller_of}
use Rattle.ph_book.specs.Entries.{deed_of, entry_of}
use Rattle.ph_book.specs.Answers.{HasStatus, IsAnswerTo, Says}
use Rattle.ph_book.specs.History.{said_to}
use Rattle.ph_book.specs.Hosts.{Allows, Answers}
use Rattle.ph_book.specs.Legal.{IsLegal, is_full}
use Rattle.ph_book.specs.OwnRuns.{RunsAfter, own_of}
use Rattle.ph_book.specs.State.{BookState, entered}
use Rattle.ph_book.specs.Tickets.{HandsOut}
use Rattle.ph_book.specs.Stays.{own_stays}
use Rattle.ph_book.proofs.GrowthLemmas.{legal_front}
use Rattle.ph_book.proofs.OwnRunLemmas.{runs_after}
use Rattle.ph_conn.specs.Fronts.{Filed, OnlySaw, Entered, entries_in, filed, filed_as, kept_entry, known_alone, known_by, live_in, MayDo, placed_as, placed_from}
use Rattle.ph_conn.proofs.FrontLemmas.{starts-itself}
use Rattle.ph_conn.proofs.PlaceLemmas.{fresh-place}

-- ---- a book alone

pub entries-kept : (history : List Entry) → entries_in (map kept_entry history) ≡ history
entries-kept [] = refl
entries-kept (entry ∷ history) = ap (λ (h : List Entry). entry ∷ h) (entries-kept history)

placed-push : {A : Type 0} (place : ℕ) (xs : List A) (x : A) → placed_from place (xs ++ x ∷ []) ≡ placed_from place xs ++ (place + length xs, x) ∷ []
placed-push place [] x = let same : place ≡ place + 0 = omega arith in ap (λ n. (n, x) ∷ []) same
placed-push place (y ∷ xs) x =
    let same : (place + 1) + length xs ≡ place + length (y ∷ xs) = omega arith in
    ap (λ rest. (place, y) ∷ rest) (placed-push (place + 1) xs x ∙ ap (λ n. placed_from (place + 1) xs ++ (n, x) ∷ []) same)

-- the book is legal, whatever is known of it
pub known-legal : (book : BookState) → IsLegal book.setup book.history → IsLegal book.setup (entries_in (map kept_entry book.history))
known-legal book legal = subst (IsLegal book.setup) (sym (entries-kept book.history)) legal

-- an act was entered in the book
pub entered_alone : (old new : BookState) (a : Act) (given : Answer) → new ≡ entered old (entry_of 0 a) → IsLegal new.setup new.history
    → Answers old.setup old.history (entry_of 0 a) given → RunsAfter old.setup old.history (entry_of 0 a) → Entered (known_alone old) (known_alone new) a given kept.Yes
entered_alone old new a given is legal answered runs = subst (λ (b : BookState). Entered (known_alone old) (known_alone b) a given kept.Yes) (sym is)
    (at (subst (λ (b : BookState). IsLegal b.setup b.history) is legal))
  where
    entry : Entry
    entry = entry_of 0 a

    before : List Filed
    before = map kept_entry old.history

    same : entries_in before ≡ old.history
    same = entries-kept old.history

    front : map kept_entry (old.history ++ entry ∷ []) ≡ before ++ filed 0 a kept.Yes ∷ []
    front = map-append kept_entry old.history (entry ∷ [])

    at : IsLegal old.setup (old.history ++ entry ∷ []) → Entered (known_alone old) (known_alone (entered old entry)) a given kept.Yes
    at legal =
        let place : 1 + length before ≡ length before + 1 = omega arith in
        record {
          same = record { setup = refl; caller = refl; legal = subst (IsLegal old.setup) (sym (entries-kept (old.history ++ entry ∷ []))) legal };
          before = before;
          seen = starts-itself before;
          live = λ run. refl;
          front = front;
          mine = ap (placed_from 1) front ∙ placed-push 1 before (filed 0 a kept.Yes) ∙ ap (λ n. placed_from 1 before ++ (n, filed 0 a kept.Yes) ∷ []) place;
          answered = subst (λ (h : List Entry). Answers old.setup h entry given) (sym same) answered;
          runs = subst (λ (h : List Entry). RunsAfter old.setup h entry) (sym same) runs;
          fresh = fresh-place old.setup (entries_in before) 0;
        }

-- nothing was entered in the book
pub saw_alone : (old new : BookState) → new ≡ old → IsLegal new.setup new.history → OnlySaw (known_alone old) (known_alone new)
saw_alone old new is legal = record {
  same = record { setup = ap (λ (b : BookState). b.setup) is; caller = refl; legal = known-legal new legal };
  front = subst (λ (b : BookState). StartsWith (map kept_entry b.history) (map kept_entry old.history)) (sym is) (starts-itself (map kept_entry old.history));
  mine = ap (λ (b : BookState). placed_from 1 (map kept_entry b.history)) is;
  live = λ run. ap (λ (b : BookState). live_in (known_alone b) run) is;
}

-- the answer to an act, by the clauses of a book
pub answered_alone : (old new : BookState) (a : Act) (given : Answer) → new ≡ entered old (entry_of 0 a) → Says (length old.history + 1) 0 (said_to old.setup old.history (entry_of 0 a)) given
    → IsAnswerTo (deed_of a) given → HasStatus given → HandsOut new.setup new.history 0 given → Answers old.setup old.history (entry_of 0 a) given
answered_alone old new a given is says kind status live = record {
  says = says;
  kind = kind;
  status = status;
  live = subst (λ (b : BookState). HandsOut b.setup b.history 0 given) is live;
}

-- the book that is as it was has no room for the act that was refused as full
pub full_alone : (old new : BookState) (a : Act) → new ≡ old → IsTrue (is_full old.setup old.history (deed_of a))
    → IsTrue (is_full new.setup (entries_in (map kept_entry new.history)) (deed_of a))
full_alone old new a is full =
    subst (λ (h : List Entry). IsTrue (is_full new.setup h (deed_of a))) (sym (entries-kept new.history))
    (subst (λ (b : BookState). IsTrue (is_full b.setup b.history (deed_of a))) (sym is) full)

-- ---- by a pass

module _ {E Base : Type 0} (setup : Base → Setup) (plain : E → Entry) (mark : E → Kept) where
  -- the entries of a front, as they are filed, are the book's
  pub entries-plain : (front : List E) → entries_in (map (filed_as setup plain mark) front) ≡ map plain front
  entries-plain [] = refl
  entries-plain (e ∷ front) = ap (λ (h : List Entry). plain e ∷ h) (entries-plain front)

  -- what is known by a pass is legal
  pub pass-legal : (pass : Shown E Base) → IsLegal (setup pass.base) (map plain pass.front) → IsLegal (setup pass.base) (entries_in (map (filed_as setup plain mark) pass.front))
  pass-legal pass legal = subst (IsLegal (setup pass.base)) (sym (entries-plain pass.front)) legal

  -- what may be done, said of the book's entries
  pub may_by : (pass : Shown E Base) (a : Act) → MayDo (known_by setup plain mark pass) a → Allows (setup pass.base) (map plain pass.front) pass.caller a
  may_by pass a may = subst (λ (h : List Entry). Allows (setup pass.base) h pass.caller a) (entries-plain pass.front) may

  pub may_again : (pass : Shown E Base) (a : Act) → Allows (setup pass.base) (map plain pass.front) pass.caller a → MayDo (known_by setup plain mark pass) a
  may_again pass a may = subst (λ (h : List Entry). Allows (setup pass.base) h pass.caller a) (sym (entries-plain pass.front)) may

  pub full_by : (pass : Shown E Base) (a : Act) → IsTrue (is_full (setup pass.base) (map plain pass.front) (deed_of a))
      → IsTrue (is_full (setup pass.base) (entries_in (map (filed_as setup plain mark) pass.front)) (deed_of a))
  full_by pass a full = subst (λ (h : List Entry). IsTrue (is_full (setup pass.base) h (deed_of a))) (sym (entries-plain pass.front)) full

  starts-filed : (front seen : List E) → StartsWith front seen → StartsWith (map (filed_as setup plain mark) front) (map (filed_as setup plain mark) seen)
  starts-filed front seen s =
      (map (filed_as setup plain mark) s.0, ap (map (filed_as setup plain mark)) s.1 ∙ map-append (filed_as setup plain mark) seen s.0)

  module _ (by : E → ℕ) (naming : (e : E) → (plain e).caller ≡ by e) where
    -- where none is of a caller, none of the book's is
    none-plain : (caller : ℕ) (more : List E) → NoneOf by caller more → NoneOf caller_of caller (map plain more)
    none-plain caller [] none = tt
    none-plain caller (e ∷ more) none = ((λ is. none.0 (sym (naming e) ∙ is)), none-plain caller more none.1)

    -- entries of others leave the live runs
    live-stays : (b : Base) (caller : ℕ) (front seen : List E) (s : StartsWith front seen) → NoneOf by caller s.0 → (run : ℕ)
        → own_of (setup b) (entries_in (map (filed_as setup plain mark) front)) caller run ≡ own_of (setup b) (entries_in (map (filed_as setup plain mark) seen)) caller run
    live-stays b caller front seen s none run =
        ap (λ (h : List Entry). own_of (setup b) h caller run) (entries-plain front ∙ ap (map plain) s.1 ∙ map-append plain seen s.0)
        ∙ own_stays (setup b) (map plain seen) (map plain s.0) caller run (none-plain caller s.0 none)
        ∙ ap (λ (h : List Entry). own_of (setup b) h caller run) (sym (entries-plain seen))

    -- nothing was entered through the pass
    pub saw_by : (lawful : Base → List E → Type 0) (legality : (b : Base) (h : List E) → lawful b h → IsLegal (setup b) (map plain h)) (old new : Shown E Base)
        → IsPass by lawful old → IsPass by lawful new → SamePass old new → passes.OnlySaw old new → OnlySaw (known_by setup plain mark old) (known_by setup plain mark new)
    saw_by lawful legality old new was is same saw = record {
      same = record {
        setup = ap setup same.base;
        caller = same.caller;
        legal = subst (IsLegal (setup new.base)) (sym (entries-plain new.front)) (legality new.base new.front is.legal);
      };
      front = starts-filed new.front old.front saw.front;
      mine = ap (map (placed_as setup plain mark)) saw.mine;
      live = λ run.
          ap (λ (b : Base). own_of (setup b) (entries_in (map (filed_as setup plain mark) new.front)) new.caller run) same.base
          ∙ ap (λ (c : ℕ). own_of (setup old.base) (entries_in (map (filed_as setup plain mark) new.front)) c run) same.caller
          ∙ live-stays old.base old.caller new.front old.front saw.front
          (owns.others_only by old.caller new.front old.front old.mine saw.front (ap (λ (c : ℕ). own_entries by c 1 new.front) (sym same.caller) ∙ is.own ∙ saw.mine) was.own) run;
    }

    -- an act was entered through the pass
    pub entered_by : {D Ans : Type 0} (deed : E → D) (act_deed : Act → D) (answers : Base → List E → E → Ans → Type 0) (full : Base → List E → Act → Type 0) (lawful : Base → List E → Type 0)
        (legality : (b : Base) (h : List E) → lawful b h → IsLegal (setup b) (map plain h)) (few : (b : Base) (h : List E) → lawful b h → (setup b).entries < 2 ^ 32)
        (entering : (c : ℕ) (a : Act) (e : E) → by e ≡ c → deed e ≡ act_deed a → plain e ≡ entry_of c a)
        (old new : Shown E Base) (a : Act) (answer : Ans) (given : Answer) (kept_as : Kept)
        → IsPass by lawful old → IsPass by lawful new → SamePass old new → (e : passes.Entered by deed act_deed answers full old new a answer)
        → Answers (setup old.base) (map plain e.before) (plain e.entry) given → kept_as ≡ mark e.entry
        → Entered (known_by setup plain mark old) (known_by setup plain mark new) a given kept_as
    entered_by deed act_deed answers full lawful legality few entering old new a answer given kept_as was is same e answered marked =
        let as_filed = filed_as setup plain mark in
        let before = map as_filed e.before in
        let entry_is : plain e.entry ≡ entry_of old.caller a = entering old.caller a e.entry e.of_caller e.of_act in
        let filed_is : as_filed e.entry ≡ filed old.caller a kept_as =
        ap (λ (en : Entry). record { entry = en; kept = mark e.entry }) entry_is ∙ ap (λ (k : Kept). record { entry = entry_of old.caller a; kept = k }) (sym marked) in
        let front : map as_filed new.front ≡ before ++ filed old.caller a kept_as ∷ [] =
        ap (map as_filed) e.front ∙ map-append as_filed e.before (e.entry ∷ []) ∙ ap (λ (f : Filed). before ++ f ∷ []) filed_is in
        let long : length e.before ≡ length before = sym (length-map e.before as_filed) in
        let legal : IsLegal (setup old.base) (map plain e.before ++ plain e.entry ∷ []) =
        subst (IsLegal (setup old.base)) (ap (map plain) e.front ∙ map-append plain e.before (e.entry ∷ [])) (subst (λ (b : Base). IsLegal (setup b) (map plain new.front)) same.base (legality new.base new.front is.legal)) in
        let was_legal = legal_front (setup old.base) (map plain e.before) (plain e.entry ∷ []) legal in
        let own_front : own_entries by old.caller 1 new.front ≡ new.mine = ap (λ (c : ℕ). own_entries by c 1 new.front) (sym same.caller) ∙ is.own in
        let own_before : own_entries by old.caller 1 e.before ≡ old.mine =
        append_cancel_right (own_entries by old.caller 1 e.before) old.mine ((length e.before + 1, e.entry) ∷ [])
        (sym (owns.own_more by old.caller e.before new.front (own_entries by old.caller 1 e.before) e.entry refl e.of_caller e.front) ∙ own_front ∙ e.mine) in
        record {
          same = record {
            setup = ap setup same.base;
            caller = same.caller;
            legal = subst (IsLegal (setup new.base)) (sym (entries-plain new.front)) (legality new.base new.front is.legal);
          };
          before = before;
          seen = starts-filed e.before old.front e.seen;
          live = λ run. live-stays old.base old.caller e.before old.front e.seen (owns.others_only by old.caller e.before old.front old.mine e.seen own_before was.own) run;
          front = front;
          mine = ap (map (placed_as setup plain mark)) e.mine ∙ map-append (placed_as setup plain mark) old.mine ((length e.before + 1, e.entry) ∷ [])
              ∙ ap (λ (f : Filed). map (placed_as setup plain mark) old.mine ++ (length e.before + 1, f) ∷ []) filed_is
              ∙ ap (λ n. map (placed_as setup plain mark) old.mine ++ (n + 1, filed old.caller a kept_as) ∷ []) long;
          answered = subst (λ (h : List Entry). Answers (setup old.base) h (entry_of old.caller a) given) (sym (entries-plain e.before))
              (subst (λ (en : Entry). Answers (setup old.base) (map plain e.before) en given) entry_is answered);
          runs = subst (λ (h : List Entry). RunsAfter (setup old.base) h (entry_of old.caller a)) (sym (entries-plain e.before))
              (subst (λ (en : Entry). RunsAfter (setup old.base) (map plain e.before) en) entry_is (runs_after (setup old.base) (map plain e.before) (few old.base old.front was.legal) was_legal (plain e.entry)));
          fresh = fresh-place (setup old.base) (entries_in before) old.caller;
        }
