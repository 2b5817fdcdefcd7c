-- Where a history stops being legal.
use Rattle.std.proofs.Common.{◌≡◌, ℕ, ◌+◌, ◌<◌, ◌⊎◌, inl, inr, true, false, List, [], ◌∷◌, ◌++◌, length, get_or, take, drop, Some, None, refl, sym, ap, ◌∙◌, subst, append_assoc, arith, IsTrue}
use Rattle.std.specs.List.{fold}
use Rattle.std.proofs.lemmas.List.{at_drop_more, length-take-le, take-append-drop, take_more}
use Rattle.ph_base.specs.declared.acquirer.Ruling.{Ruling}
use Rattle.ph_base.specs.declared.acquirer.Why.{Why}
use Rattle.ph_lock.specs.declared.object.Refused.{Refused}
use Rattle.ph_lock.specs.declared.object.Refused.TheVariants as refusal
use Rattle.ph_book.specs.declared.setup.Setup.{Setup}
use Rattle.ph_book.specs.declared.acts.Deed.{Deed}
use Rattle.ph_book.specs.declared.acts.Deed.TheVariants as deed
use Rattle.ph_book.specs.declared.acts.Entry.{Entry}
use Rattle.ph_book.specs.History.{Happening, and_then, past_of, doings_of}
use Rattle.ph_book.specs.Legal.{AreAllowed, IsAllowed, IsLegal, is_full}
use Rattle.ph_book.specs.OwnRuns.{own_of}
use Rattle.ph_book.specs.State.{BookState, entered}
use Rattle.ph_replay.specs.declared.unentered.Unentered.{Unentered}
use Rattle.ph_replay.specs.Legal.{IsIllegalAt}
use Rattle.ph_replay.specs.Unentered.{IsUnentered, reason}

-- the last entry of a legal history may come after those before it
allowed_last : (setup : Setup) (past : List Happening) (history : List Entry) (entry : Entry) → AreAllowed setup past (history ++ entry ∷ [])
    → IsAllowed setup (fold (and_then setup) past history) entry
allowed_last setup past [] entry allowed = allowed.0
allowed_last setup past (first ∷ entries) entry allowed = allowed_last setup (and_then setup past first) entries entry allowed.1

pub legal_last : (setup : Setup) (history : List Entry) (entry : Entry) → IsLegal setup (history ++ entry ∷ []) → IsAllowed setup (past_of setup history) entry
legal_last setup history entry legal = allowed_last setup [] history entry legal.allowed

-- a front of a legal history is legal
allowed_front : (setup : Setup) (past : List Happening) (front behind : List Entry) → AreAllowed setup past (front ++ behind) → AreAllowed setup past front
allowed_front setup past [] behind allowed = tt
allowed_front setup past (entry ∷ front) behind allowed = (allowed.0, allowed_front setup (and_then setup past entry) front behind allowed.1)

pub legal_front : (setup : Setup) (front behind : List Entry) → IsLegal setup (front ++ behind) → IsLegal setup front
legal_front setup front behind legal = record { opened = legal.opened; allowed = allowed_front setup [] front behind legal.allowed }

pub illegal_never : (setup : Setup) (entries : List Entry) (at : ℕ) → IsIllegalAt setup entries at → IsLegal setup entries → ⊥
illegal_never setup entries at (inl late) legal = late.0 legal.opened
illegal_never setup entries at (inr ends) legal =
    let parts = ends.parts ∙ sym (append_assoc ends.before (ends.entry ∷ []) ends.behind) in
    ends.not_legal (legal_front setup (ends.before ++ ends.entry ∷ []) ends.behind (subst (IsLegal setup) parts legal))

-- where two places of a list stand: at one, or the first before the second, or behind it
two_places : {E : Type 0} (xs ys rs ss : List E) (x y : E) → xs ++ x ∷ rs ≡ ys ++ y ∷ ss
    → (length xs ≡ length ys) ⊎ ((more : List E) × (ys ≡ (xs ++ x ∷ []) ++ more)) ⊎ ((more : List E) × (xs ≡ (ys ++ y ∷ []) ++ more))
two_places [] [] rs ss x y same = inl refl
two_places [] (z ∷ ys) rs ss x y same = inr (inl (ys, let head : x ≡ z = cc in ap (λ h. h ∷ ys) (sym head)))
two_places (z ∷ xs) [] rs ss x y same = inr (inr (xs, let head : z ≡ y = cc in ap (λ h. h ∷ xs) head))
two_places {E} (z ∷ xs) (w ∷ ys) rs ss x y same =
    let head : z ≡ w = cc in
    let tail : xs ++ x ∷ rs ≡ ys ++ y ∷ ss = cc in
    cases head (two_places xs ys rs ss x y tail)
  where
    cases : z ≡ w → (length xs ≡ length ys) ⊎ ((more : List E) × (ys ≡ (xs ++ x ∷ []) ++ more)) ⊎ ((more : List E) × (xs ≡ (ys ++ y ∷ []) ++ more))
        → (length (z ∷ xs) ≡ length (w ∷ ys)) ⊎ ((more : List E) × (w ∷ ys ≡ ((z ∷ xs) ++ x ∷ []) ++ more)) ⊎ ((more : List E) × (z ∷ xs ≡ ((w ∷ ys) ++ y ∷ []) ++ more))
    cases head (inl long) = inl (omega (arith, long))
    cases head (inr (inl first)) = inr (inl (first.0, ap (λ l. w ∷ l) first.1 ∙ ap (λ h. h ∷ ((xs ++ x ∷ []) ++ first.0)) (sym head)))
    cases head (inr (inr behind)) = inr (inr (behind.0, ap (λ l. z ∷ l) behind.1 ∙ ap (λ h. h ∷ ((ys ++ y ∷ []) ++ behind.0)) head))

-- the first line that isn't legal is one
pub illegal_one : (setup : Setup) (entries : List Entry) (at other : ℕ) → IsIllegalAt setup entries at → IsIllegalAt setup entries other → at ≡ other
illegal_one setup entries at other (inl late) (inl also) = late.1 ∙ sym also.1
illegal_one setup entries at other (inl late) (inr ends) = absurd (late.0 ends.legal.opened)
illegal_one setup entries at other (inr ends) (inl late) = absurd (late.0 ends.legal.opened)
illegal_one setup entries at other (inr a) (inr b) = cases (two_places a.before b.before a.behind b.behind a.entry b.entry (sym a.parts ∙ b.parts))
  where
    cases : (length a.before ≡ length b.before) ⊎ ((more : List Entry) × (b.before ≡ (a.before ++ a.entry ∷ []) ++ more)) ⊎ ((more : List Entry) × (a.before ≡ (b.before ++ b.entry ∷ []) ++ more)) → at ≡ other
    cases (inl long) = a.place ∙ ap (λ n. n + 3) long ∙ sym b.place
    cases (inr (inl first)) = absurd (a.not_legal (legal_front setup (a.before ++ a.entry ∷ []) first.0 (subst (IsLegal setup) first.1 b.legal)))
    cases (inr (inr behind)) = absurd (b.not_legal (legal_front setup (b.before ++ b.entry ∷ []) behind.0 (subst (IsLegal setup) behind.1 a.legal)))

-- ---- why an entry may not come

-- there is no room for it
pub full_never : (setup : Setup) (history : List Entry) (entry : Entry) → IsTrue (is_full setup history entry.deed) → IsAllowed setup (past_of setup history) entry → ⊥
unfolding is_full
full_never setup history entry full allowed = let never : true ≡ false = sym full ∙ allowed.room in absurd (cc)

-- it ends no live run of its caller
pub finish_never : (setup : Setup) (history : List Entry) (caller run : ℕ) (ruling : Ruling) → own_of setup history caller run ≡ None
    → IsAllowed setup (past_of setup history) (record { caller = caller; deed = deed.Finish run ruling }) → ⊥
unfolding doings_of
finish_never setup history caller run ruling none allowed = let never : None ≡ Some allowed.own.0 = sym none ∙ allowed.own.1 in absurd (cc)

pub park_never : (setup : Setup) (history : List Entry) (caller run : ℕ) (why : Why) → own_of setup history caller run ≡ None
    → IsAllowed setup (past_of setup history) (record { caller = caller; deed = deed.Park run why }) → ⊥
unfolding doings_of
park_never setup history caller run why none allowed = let never : None ≡ Some allowed.own.0 = sym none ∙ allowed.own.1 in absurd (cc)

-- a book that refused an act for want of room or of memory
pub refused_is : (setup : Setup) (history : List Entry) (entry : Entry) (given : Refused) (why : Unentered) → why ≡ reason given
    → (given ≡ refusal.Full → IsTrue (is_full setup history entry.deed)) → IsUnentered setup history entry why
refused_is setup history entry refusal.Full why is full = subst (IsUnentered setup history entry) (sym is) (full_never setup history entry (full refl))
refused_is setup history entry refusal.NoMemory why is full = subst (IsUnentered setup history entry) (sym is) tt

-- what holds of an entry's caller and deed holds of the entry
pub entry_by : (entry : Entry) (deed : Deed) → entry.deed ≡ deed → record { caller = entry.caller; deed = deed } ≡ entry
entry_by entry deed is = λ i. record { caller = entry.caller; deed = sym is i }

-- ---- entries one after another

-- one entry more of the list
pub entered_more : (setup : Setup) (entries : List Entry) (i : ℕ) (entry : Entry) (old new : BookState) → i < length entries → entry ≡ get_or entries i entry
    → old ≡ record { setup = setup; history = take i entries } → new ≡ entered old entry → new ≡ record { setup = setup; history = take (i + 1) entries }
entered_more setup entries i entry old new within is before more =
    more ∙ ap (λ (book : BookState). entered book entry) before
    ∙ ap (λ history. record { setup = setup; history = history }) (ap (λ x. take i entries ++ x ∷ []) is ∙ sym (take_more entries i entry within))

-- the next entry of the list may not come after those before it
pub ends_at : (setup : Setup) (entries : List Entry) (i : ℕ) (entry : Entry) (book : BookState) → i < length entries → entry ≡ get_or entries i entry
    → book ≡ record { setup = setup; history = take i entries } → IsLegal book.setup book.history
    → (IsAllowed book.setup (past_of book.setup book.history) entry → ⊥) → IsIllegalAt setup entries (i + 3)
ends_at setup entries i entry book within is before legal never = inr (record {
  before = take i entries;
  entry = entry;
  behind = drop (i + 1) entries;
  parts = sym (take-append-drop i entries) ∙ ap (λ rest. take i entries ++ rest) (at_drop_more (λ rest. rest) entries i entry within ∙ ap (λ x. x ∷ drop (i + 1) entries) (sym is));
  place = let front : length (take i entries) ≡ i = length-take-le i entries (omega (arith, within)) in ap (λ n. n + 3) (sym front);
  legal = subst (λ (b : BookState). IsLegal b.setup b.history) before legal;
  not_legal = λ more. subst (λ (b : BookState). IsAllowed b.setup (past_of b.setup b.history) entry → ⊥) before never (legal_last setup (take i entries) entry more);
})
