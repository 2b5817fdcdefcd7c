-- Any list of calls of a talk.
use Rattle.std.proofs.Common.{◌≡◌, ℕ, Bool, true, false, List, [], ◌∷◌, ◌++◌, refl, sym, ap, ◌∙◌, subst, append_assoc}
use Rattle.std.specs.List.{list_all}
use Rattle.std.proofs.lemmas.List.{append-nil}
use Rattle.ph_http.specs.declared.message.Next.{Next}
use Rattle.ph_http.specs.declared.message.Next.TheVariants as next
use Rattle.ph_http.specs.Calls.{Step, Feed, Finish, Gave, Run, fed, given, and_item, IsFront}
use Rattle.ph_http.specs.Items.{Item, Continue, Request, Close, Cut, End, Has, first, items_from, items_of}
use Rattle.ph_http.specs.Talk.{Gives, Leads, goes_on}
use Rattle.ph_http.specs.TalkState.{TalkState, talk_of, grown}
use Rattle.ph_http.proofs.FirstLemmas.{first_more}
use Rattle.ph_http.proofs.ItemLemmas.{items_lead, items_last, leads_push, leads_more}

-- from the bytes so far on came these items, and the talk stands so
abbrev pub Led : List ℕ → List Item → TalkState → Type 0
Led bytes items talk = Leads (talk_of bytes talk.ended) items talk

-- more bytes are fed, or the end is told
pub led_more : (bytes : List ℕ) (items : List Item) (talk : TalkState) (more : List ℕ) (ended : Bool) → talk.ended ≡ false → Led bytes items talk → Led (bytes ++ more) items (grown talk more ended)
led_more bytes items talk more ended before h = leads_more (talk_of bytes talk.ended) talk items more ended before h

same_bytes : (talk : TalkState) (ended : Bool) → grown talk [] ended ≡ record talk { ended = ended }
same_bytes talk ended = ap (λ (u : List ℕ). record talk { unread = u; ended = ended }) (append-nil talk.unread)

grown_open : (talk : TalkState) (piece : List ℕ) → talk.ended ≡ false → grown talk piece false ≡ record talk { unread = talk.unread ++ piece }
grown_open talk piece before = ap (λ b. record talk { unread = talk.unread ++ piece; ended = b }) (sym before)

pub led_fed : (bytes : List ℕ) (items : List Item) (talk : TalkState) (piece : List ℕ) → talk.ended ≡ false → Led bytes items talk → Led (bytes ++ piece) items (record talk { unread = talk.unread ++ piece })
led_fed bytes items talk piece before h = subst (Led (bytes ++ piece) items) (grown_open talk piece before) (led_more bytes items talk piece false before h)

pub led_finished : (bytes : List ℕ) (items : List Item) (talk : TalkState) → Led bytes items talk → Led bytes items (record talk { ended = true })
led_finished bytes items talk h = at talk.ended refl
  where
    at : (b : Bool) → talk.ended ≡ b → Led bytes items (record talk { ended = true })
    at true e = subst (Led bytes items) (ap (λ b. record talk { ended = b }) e) h
    at false e = subst (λ (b : List ℕ). Led b items (record talk { ended = true })) (append-nil bytes)
        (subst (Led (bytes ++ []) items) (same_bytes talk true) (led_more bytes items talk [] true e h))

-- an item is given, and others may follow
pub led_given : (bytes : List ℕ) (items : List Item) (talk after : TalkState) (item : Item) → Led bytes items talk → first talk ≡ Has item after → after.ended ≡ talk.ended → goes_on item ≡ true → Led bytes (items ++ item ∷ []) after
led_given bytes items talk after item h k same goes =
    subst (λ b. Leads (talk_of bytes b) (items ++ item ∷ []) after) (sym same) (leads_push (talk_of bytes talk.ended) talk after items item h k goes)

-- ---- behind an item that ends a session

abbrev IsEnded : List ℕ → List Item → Item → TalkState → Type 0
IsEnded bytes items last talk = IsFront (items ++ last ∷ []) (items_of bytes talk.ended)

abbrev Ends : Item → TalkState → Type 0
Ends last talk = (after : TalkState) × (first talk ≡ Has last after)

ends_grown : (talk : TalkState) (last : Item) (more : List ℕ) (ended : Bool) → talk.ended ≡ false → Ends last talk → Ends last (grown talk more ended)
ends_grown talk last more ended before h = (grown h.0 more ended, first_more talk h.0 last more ended before h.1)

ends_fed : (talk : TalkState) (last : Item) (piece : List ℕ) → talk.ended ≡ false → Ends last talk → Ends last (record talk { unread = talk.unread ++ piece })
ends_fed talk last piece before h = subst (Ends last) (grown_open talk piece before) (ends_grown talk last piece false before h)

ends_finished : (talk : TalkState) (last : Item) → Ends last talk → Ends last (record talk { ended = true })
ends_finished talk last h = at talk.ended refl
  where
    at : (b : Bool) → talk.ended ≡ b → Ends last (record talk { ended = true })
    at true e = subst (Ends last) (ap (λ b. record talk { ended = b }) e) h
    at false e = subst (Ends last) (same_bytes talk true) (ends_grown talk last [] true e h)

nothing_more : (answer : Next) (steps : List Step) (old middle : TalkState) → and_item answer (given steps) ≡ [] → Gives old answer middle → (middle ≡ old) × (given steps ≡ [])
nothing_more (next.Request raw) steps old middle n g = absurd cc
nothing_more next.Continue steps old middle n g = absurd cc
nothing_more (next.Close status) steps old middle n g = absurd cc
nothing_more next.Cut steps old middle n g = absurd cc
nothing_more next.End steps old middle n g = absurd cc
nothing_more next.More steps old middle n g = (g.1, n)

ended_so : (steps : List Step) (bytes : List ℕ) (items : List Item) (last : Item) (old new : TalkState) → Led bytes items old → Ends last old → goes_on last ≡ false
    → given steps ≡ [] → Run old steps new → IsEnded (bytes ++ fed steps) items last new
ended_so [] bytes items last old new h k stops n r =
    subst (IsEnded (bytes ++ []) items last) r (subst (λ (b : List ℕ). IsEnded b items last old) (sym (append-nil bytes))
    ([], items_lead (talk_of bytes old.ended) old items h ∙ ap (λ (xs : List Item). items ++ xs) (items_last old k.0 last k.1 stops) ∙ sym (append-nil (items ++ last ∷ []))))
ended_so (Feed piece ∷ steps) bytes items last old new h k stops n r =
    subst (λ (b : List ℕ). IsEnded b items last new) (append_assoc bytes piece (fed steps))
    (ended_so steps (bytes ++ piece) items last (record old { unread = old.unread ++ piece }) new (led_fed bytes items old piece r.0 h) (ends_fed old last piece r.0 k) stops n r.1)
ended_so (Finish ∷ steps) bytes items last old new h k stops n r =
    ended_so steps bytes items last (record old { ended = true }) new (led_finished bytes items old h) (ends_finished old last k) stops n r
ended_so (Gave answer ∷ steps) bytes items last old new h k stops n r =
    let m = nothing_more answer steps old r.0 n r.1 in
    ended_so steps bytes items last r.0 new (subst (Led bytes items) (sym m.0) h) (subst (Ends last) (sym m.0) k) stops m.1 r.3

-- ---- all calls

abbrev IsGiven : List ℕ → List Item → List Step → TalkState → Type 0
IsGiven bytes items steps new = IsFront (items ++ given steps) (items_of (bytes ++ fed steps) new.ended)

goes : (steps : List Step) (bytes : List ℕ) (items : List Item) (old new : TalkState) → Led bytes items old → Run old steps new → IsGiven bytes items steps new
goes [] bytes items old new h r =
    subst (IsGiven bytes items []) r (subst (λ (b : List ℕ). IsFront (items ++ []) (items_of b old.ended)) (sym (append-nil bytes))
    (subst (λ (xs : List Item). IsFront xs (items_of bytes old.ended)) (sym (append-nil items)) (items_from old, items_lead (talk_of bytes old.ended) old items h)))
goes (Feed piece ∷ steps) bytes items old new h r =
    subst (λ (b : List ℕ). IsFront (items ++ given steps) (items_of b new.ended)) (append_assoc bytes piece (fed steps))
    (goes steps (bytes ++ piece) items (record old { unread = old.unread ++ piece }) new (led_fed bytes items old piece r.0 h) r.1)
goes (Finish ∷ steps) bytes items old new h r = goes steps bytes items (record old { ended = true }) new (led_finished bytes items old h) r
goes (Gave (next.Request raw) ∷ steps) bytes items old new h r =
    subst (λ (xs : List Item). IsFront xs (items_of (bytes ++ fed steps) new.ended)) (append_assoc items (Request raw ∷ []) (given steps))
    (goes steps bytes (items ++ Request raw ∷ []) r.0 new (led_given bytes items old r.0 (Request raw) h r.1.0 r.1.1 refl) r.3)
goes (Gave next.Continue ∷ steps) bytes items old new h r =
    subst (λ (xs : List Item). IsFront xs (items_of (bytes ++ fed steps) new.ended)) (append_assoc items (Continue ∷ []) (given steps))
    (goes steps bytes (items ++ Continue ∷ []) r.0 new (led_given bytes items old r.0 Continue h r.1.0 r.1.1 refl) r.3)
goes (Gave (next.Close status) ∷ steps) bytes items old new h r =
    subst (λ (xs : List Item). IsFront (items ++ Close status ∷ xs) (items_of (bytes ++ fed steps) new.ended)) (sym r.2)
    (ended_so steps bytes items (Close status) r.0 new (subst (Led bytes items) (sym r.1.1) h) (subst (Ends (Close status)) (sym r.1.1) (old, r.1.0)) refl r.2 r.3)
goes (Gave next.Cut ∷ steps) bytes items old new h r =
    subst (λ (xs : List Item). IsFront (items ++ Cut ∷ xs) (items_of (bytes ++ fed steps) new.ended)) (sym r.2)
    (ended_so steps bytes items Cut r.0 new (subst (Led bytes items) (sym r.1.1) h) (subst (Ends Cut) (sym r.1.1) (old, r.1.0)) refl r.2 r.3)
goes (Gave next.End ∷ steps) bytes items old new h r =
    subst (λ (xs : List Item). IsFront (items ++ End ∷ xs) (items_of (bytes ++ fed steps) new.ended)) (sym r.2)
    (ended_so steps bytes items End r.0 new (subst (Led bytes items) (sym r.1.1) h) (subst (Ends End) (sym r.1.1) (old, r.1.0)) refl r.2 r.3)
goes (Gave next.More ∷ steps) bytes items old new h r = goes steps bytes items r.0 new (subst (Led bytes items) (sym r.1.1) h) r.3

pub items_given : (steps : List Step) (new : TalkState) → Run (talk_of [] false) steps new → IsFront (given steps) (items_of (fed steps) new.ended)
items_given steps new r = goes steps [] [] (talk_of [] false) new refl r

-- ---- all calls, where no item ends the session

leads_all : (steps : List Step) (bytes : List ℕ) (items : List Item) (old new : TalkState) → Led bytes items old → list_all goes_on (given steps) ≡ true → Run old steps new → Led (bytes ++ fed steps) (items ++ given steps) new
leads_all [] bytes items old new h all r =
    subst (Led (bytes ++ []) (items ++ [])) r (subst (λ (b : List ℕ). Led b (items ++ []) old) (sym (append-nil bytes)) (subst (λ (xs : List Item). Led bytes xs old) (sym (append-nil items)) h))
leads_all (Feed piece ∷ steps) bytes items old new h all r =
    subst (λ (b : List ℕ). Led b (items ++ given steps) new) (append_assoc bytes piece (fed steps))
    (leads_all steps (bytes ++ piece) items (record old { unread = old.unread ++ piece }) new (led_fed bytes items old piece r.0 h) all r.1)
leads_all (Finish ∷ steps) bytes items old new h all r = leads_all steps bytes items (record old { ended = true }) new (led_finished bytes items old h) all r
leads_all (Gave (next.Request raw) ∷ steps) bytes items old new h all r =
    subst (λ (xs : List Item). Led (bytes ++ fed steps) xs new) (append_assoc items (Request raw ∷ []) (given steps))
    (leads_all steps bytes (items ++ Request raw ∷ []) r.0 new (led_given bytes items old r.0 (Request raw) h r.1.0 r.1.1 refl) all r.3)
leads_all (Gave next.Continue ∷ steps) bytes items old new h all r =
    subst (λ (xs : List Item). Led (bytes ++ fed steps) xs new) (append_assoc items (Continue ∷ []) (given steps))
    (leads_all steps bytes (items ++ Continue ∷ []) r.0 new (led_given bytes items old r.0 Continue h r.1.0 r.1.1 refl) all r.3)
leads_all (Gave (next.Close status) ∷ steps) bytes items old new h all r = absurd (let w : false ≡ true = all in cc)
leads_all (Gave next.Cut ∷ steps) bytes items old new h all r = absurd (let w : false ≡ true = all in cc)
leads_all (Gave next.End ∷ steps) bytes items old new h all r = absurd (let w : false ≡ true = all in cc)
leads_all (Gave next.More ∷ steps) bytes items old new h all r = leads_all steps bytes items r.0 new (subst (Led bytes items) (sym r.1.1) h) all r.3

pub items_rest : (steps : List Step) (new : TalkState) → Run (talk_of [] false) steps new → list_all goes_on (given steps) ≡ true → items_of (fed steps) new.ended ≡ given steps ++ items_from new
items_rest steps new r all = items_lead (talk_of (fed steps) new.ended) new (given steps) (leads_all steps [] [] (talk_of [] false) new refl all r)
