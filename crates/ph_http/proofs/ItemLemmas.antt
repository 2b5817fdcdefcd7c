-- The items of a talk, item by item.
use Rattle.std.proofs.Common.{◌≡◌, ℕ, zero, suc, ◌+◌, ◌*◌, ◌<◌, Bool, true, false, List, [], ◌∷◌, ◌++◌, length, refl, sym, ap, ◌∙◌, subst, arith}
use Rattle.ph_http.specs.Calls.{IsFront}
use Rattle.ph_http.specs.Items.{Item, Continue, Request, Close, Cut, End, First, Wants, Has, first, and_then, items_up_to, items_from}
use Rattle.ph_http.specs.Talk.{Leads, goes_on}
use Rattle.ph_http.specs.TalkState.{TalkState, grown}
use Rattle.ph_http.proofs.FirstLemmas.{first_keeps, first_more, first_lighter, weight, weight_few}

-- enough steps give all items
enough : (n m : ℕ) (talk : TalkState) → weight talk < n → weight talk < m → items_up_to n talk ≡ items_up_to m talk
enough zero m talk h k = absurd (omega arith)
enough (suc n) zero talk h k = absurd (omega arith)
enough (suc n) (suc m) talk h k = at (λ after less. enough n m after (omega arith) (omega arith)) (first talk) refl
  where
    rest : ((after : TalkState) → weight after < weight talk → items_up_to n after ≡ items_up_to m after)
        → (item : Item) (after : TalkState) → first talk ≡ Has item after → goes_on item ≡ true → items_up_to n after ≡ items_up_to m after
    rest more item after e goes = more after (first_lighter talk after item e goes)

    at : ((after : TalkState) → weight after < weight talk → items_up_to n after ≡ items_up_to m after)
        → (f : First) → first talk ≡ f → and_then f (items_up_to n) ≡ and_then f (items_up_to m)
    at more Wants e = refl
    at more (Has Continue after) e = ap (λ (xs : List Item). Continue ∷ xs) (rest more Continue after e refl)
    at more (Has (Request raw) after) e = ap (λ (xs : List Item). Request raw ∷ xs) (rest more (Request raw) after e refl)
    at more (Has (Close status) after) e = refl
    at more (Has Cut after) e = refl
    at more (Has End after) e = refl

-- one step, and then all items
unrolled : (talk : TalkState) → items_from talk ≡ and_then (first talk) (items_up_to (2 * length talk.unread))
unfolding items_from
unrolled talk = let e : 2 * length talk.unread + 1 ≡ suc (2 * length talk.unread) = omega arith in ap (λ n. items_up_to n talk) e

more_steps : (talk : TalkState) (n : ℕ) → weight talk < n → items_up_to n talk ≡ items_from talk
unfolding items_from
more_steps talk n h = let w = weight_few talk in enough n (2 * length talk.unread + 1) talk h (omega arith)

-- behind an item that goes on come those of the talk after it
pub items_next : (talk after : TalkState) (item : Item) → first talk ≡ Has item after → goes_on item ≡ true → items_from talk ≡ item ∷ items_from after
items_next talk after item h goes = unrolled talk ∙ ap (λ f. and_then f (items_up_to (2 * length talk.unread))) h ∙ at item goes
  where
    all : items_up_to (2 * length talk.unread) after ≡ items_from after
    all = let s = first_lighter talk after item h goes in let w = weight_few talk in more_steps after (2 * length talk.unread) (omega arith)

    at : (item : Item) → goes_on item ≡ true → and_then (Has item after) (items_up_to (2 * length talk.unread)) ≡ item ∷ items_from after
    at Continue g = ap (λ (xs : List Item). Continue ∷ xs) all
    at (Request raw) g = ap (λ (xs : List Item). Request raw ∷ xs) all
    at (Close status) g = absurd cc
    at Cut g = absurd cc
    at End g = absurd cc

-- behind any other item comes none
pub items_last : (talk after : TalkState) (item : Item) → first talk ≡ Has item after → goes_on item ≡ false → items_from talk ≡ item ∷ []
items_last talk after item h stops = unrolled talk ∙ ap (λ f. and_then f (items_up_to (2 * length talk.unread))) h ∙ at item stops
  where
    at : (item : Item) → goes_on item ≡ false → and_then (Has item after) (items_up_to (2 * length talk.unread)) ≡ item ∷ []
    at Continue g = absurd cc
    at (Request raw) g = absurd cc
    at (Close status) g = refl
    at Cut g = refl
    at End g = refl

-- where more bytes are wanted there is none
pub items_none : (talk : TalkState) → first talk ≡ Wants → items_from talk ≡ []
items_none talk h = unrolled talk ∙ ap (λ f. and_then f (items_up_to (2 * length talk.unread))) h

-- and the other way
pub none_wants : (talk : TalkState) → items_from talk ≡ [] → first talk ≡ Wants
none_wants talk h = at (first talk) (sym (unrolled talk) ∙ h)
  where
    at : (f : First) → and_then f (items_up_to (2 * length talk.unread)) ≡ [] → f ≡ Wants
    at Wants e = refl
    at (Has Continue after) e = absurd cc
    at (Has (Request raw) after) e = absurd cc
    at (Has (Close status) after) e = absurd cc
    at (Has Cut after) e = absurd cc
    at (Has End after) e = absurd cc

-- ---- a list of items

-- the items that a talk leads through come first of its items
pub items_lead : (old new : TalkState) (items : List Item) → Leads old items new → items_from old ≡ items ++ items_from new
items_lead old new [] h = ap items_from h
items_lead old new (item ∷ items) h = items_next old h.0 item h.1 h.2 ∙ ap (λ (xs : List Item). item ∷ xs) (items_lead h.0 new items h.3)

-- one item more
pub leads_push : (old mid new : TalkState) (items : List Item) (item : Item) → Leads old items mid → first mid ≡ Has item new → goes_on item ≡ true → Leads old (items ++ item ∷ []) new
leads_push old mid new [] item h k goes = (new, ap first h ∙ k, goes, refl)
leads_push old mid new (some ∷ items) item h k goes = (h.0, h.1, h.2, leads_push h.0 mid new items item h.3 k goes)

-- more bytes behind, and the end told or not
pub leads_more : (old new : TalkState) (items : List Item) (more : List ℕ) (ended : Bool) → old.ended ≡ false → Leads old items new → Leads (grown old more ended) items (grown new more ended)
leads_more old new [] more ended before h = ap (λ (t : TalkState). grown t more ended) h
leads_more old new (item ∷ items) more ended before h =
    (grown h.0 more ended, first_more old h.0 item more ended before h.1, h.2, leads_more h.0 new items more ended (first_keeps old item h.0 h.1 ∙ before) h.3)

-- the items behind which others may come leave the end as it was
pub leads_keeps : (old new : TalkState) (items : List Item) → Leads old items new → new.ended ≡ old.ended
leads_keeps old new [] h = sym (ap (λ (t : TalkState). t.ended) h)
leads_keeps old new (item ∷ items) h = leads_keeps h.0 new items h.3 ∙ first_keeps old item h.0 h.1

-- ---- fronts

front_on : (item : Item) (front whole : List Item) → IsFront front whole → IsFront (item ∷ front) (item ∷ whole)
front_on item front whole h = (h.0, ap (λ (xs : List Item). item ∷ xs) h.1)

-- with more bytes come the same items, and perhaps more
steps_more : (n : ℕ) (talk : TalkState) (more : List ℕ) (ended : Bool) → talk.ended ≡ false → IsFront (items_up_to n talk) (items_from (grown talk more ended))
steps_more zero talk more ended before = (items_from (grown talk more ended), refl)
steps_more (suc n) talk more ended before = at (λ after same. steps_more n after more ended same) (first talk) refl
  where
    going : ((after : TalkState) → after.ended ≡ false → IsFront (items_up_to n after) (items_from (grown after more ended)))
        → (item : Item) (after : TalkState) → first talk ≡ Has item after → goes_on item ≡ true → IsFront (item ∷ items_up_to n after) (items_from (grown talk more ended))
    going then item after e goes =
        subst (IsFront (item ∷ items_up_to n after)) (sym (items_next (grown talk more ended) (grown after more ended) item (first_more talk after item more ended before e) goes))
        (front_on item (items_up_to n after) (items_from (grown after more ended)) (then after (first_keeps talk item after e ∙ before)))

    last : (item : Item) (after : TalkState) → first talk ≡ Has item after → goes_on item ≡ false → IsFront (item ∷ []) (items_from (grown talk more ended))
    last item after e stops = ([], items_last (grown talk more ended) (grown after more ended) item (first_more talk after item more ended before e) stops)

    at : ((after : TalkState) → after.ended ≡ false → IsFront (items_up_to n after) (items_from (grown after more ended)))
        → (f : First) → first talk ≡ f → IsFront (and_then f (items_up_to n)) (items_from (grown talk more ended))
    at then Wants e = (items_from (grown talk more ended), refl)
    at then (Has Continue after) e = going then Continue after e refl
    at then (Has (Request raw) after) e = going then (Request raw) after e refl
    at then (Has (Close status) after) e = last (Close status) after e refl
    at then (Has Cut after) e = last Cut after e refl
    at then (Has End after) e = last End after e refl

pub items_more : (talk : TalkState) (more : List ℕ) (ended : Bool) → talk.ended ≡ false → IsFront (items_from talk) (items_from (grown talk more ended))
items_more talk more ended before =
    subst (λ (xs : List Item). IsFront xs (items_from (grown talk more ended))) (let w = weight_few talk in more_steps talk (2 * length talk.unread + 1) (omega arith)) (steps_more (2 * length talk.unread + 1) talk more ended before)
