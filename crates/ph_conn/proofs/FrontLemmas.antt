-- Histories that begin with others, and what is known of them.
use Rattle.std.proofs.Common.{◌≡◌, ℕ, ◌+◌, ◌∷◌, ◌++◌, List, [], length, refl, sym, ap, ◌∙◌, subst, append_assoc}
use Rattle.std.proofs.lemmas.List.{append-nil}
use Rattle.ph_lock.specs.Histories.{StartsWith}
use Rattle.ph_book.specs.declared.acts.Act.{Act}
use Rattle.ph_book.specs.declared.acts.Answer.{Answer}
use Rattle.ph_book.specs.declared.hosted.Kept.{Kept}
use Rattle.ph_book.specs.declared.setup.Setup.{Setup}
use Rattle.ph_conn.specs.Fronts.{Filed, Known, KeepsLive, OnlySaw, Entered, filed}

pub starts-itself : {E : Type 0} (xs : List E) → StartsWith xs xs
starts-itself xs = ([], sym (append-nil xs))

pub starts-more : {E : Type 0} (xs more : List E) → StartsWith (xs ++ more) xs
starts-more xs more = (more, refl)

pub starts-twice : {E : Type 0} (first middle last : List E) → StartsWith middle first → StartsWith last middle → StartsWith last first
starts-twice first middle last one two =
    (one.0 ++ two.0, two.1 ∙ ap (λ xs. xs ++ two.0) one.1 ∙ append_assoc first one.0 two.0)

-- what is known, with the setup and the caller of what was known before
pub as_before : (old new : Known) → new.setup ≡ old.setup → new.caller ≡ old.caller
    → new ≡ record { setup = old.setup; caller = old.caller; front = new.front; mine = new.mine }
as_before old new setup caller =
    ap (λ (s : Setup). record { setup = s; caller = new.caller; front = new.front; mine = new.mine }) setup
    ∙ ap (λ (c : ℕ). record { setup = old.setup; caller = c; front = new.front; mine = new.mine }) caller

-- what was only seen, and then an act
pub saw_then_entered : {old middle new : Known} {act : Act} {given : Answer} {mark : Kept} → OnlySaw old middle → Entered middle new act given mark → Entered old new act given mark
saw_then_entered {old} {middle} {new} {act} {given} {mark} saw entered =
    let again : Known = record { setup = old.setup; caller = old.caller; front = middle.front; mine = middle.mine } in
    let is : middle ≡ again = as_before old middle saw.same.setup saw.same.caller in
    let e : Entered again new act given mark = subst (λ (k : Known). Entered k new act given mark) is entered in
    let kept : KeepsLive old again = subst (λ (k : Known). KeepsLive old k) is saw.live in
    record {
      same = record { setup = e.same.setup; caller = e.same.caller; legal = e.same.legal };
      before = e.before;
      seen = starts-twice old.front middle.front e.before saw.front e.seen;
      live = λ run. e.live run ∙ kept run;
      front = e.front;
      mine = e.mine ∙ ap (λ (own : List (ℕ × Filed)). own ++ (length e.before + 1, filed old.caller act mark) ∷ []) saw.mine;
      answered = e.answered;
      runs = e.runs;
      fresh = e.fresh;
    }
