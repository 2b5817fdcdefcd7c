-- What comes first of a talk, and what comes first when more bytes follow.
use Rattle.std.proofs.Common.{◌≡◌, ℕ, suc, zero, ◌-◌, ◌*◌, ◌<◌, ◌≤◌, ◌==◌, Bool, true, false, ◌&&◌, not, cond, nat_le, List, [], ◌∷◌, ◌++◌, length, take, drop, Option, Some, None, refl, sym, ap, ◌∙◌, subst, arith}
use Rattle.std.proofs.lemmas.List.{take-append-le, drop-append-le, length-append, length-take, length-drop}
use Rattle.std.proofs.lemmas.Bool.Decides.{nat_tests}
use Rattle.ph_head.specs.Parts.{HeadParts}
use Rattle.ph_http.specs.Cut.{leading, head_len}
use Rattle.ph_http.specs.Items.{Item, Continue, Request, Close, Cut, End, First, Wants, Has, at_end, with_whole, with_body, with_head, first_at, first}
use Rattle.ph_http.specs.Requests.{raw_of, expects}
use Rattle.ph_http.specs.Talk.{goes_on}
use Rattle.ph_http.specs.TalkState.{TalkState, grown}
use Rattle.ph_http.specs.Verdict.{Judgement, Closes, Accepts, judgement_of}
use Rattle.ph_http.proofs.CutLemmas.{head_more, head_within, head_some}

-- what comes first, by the length of the head
pub first_by : (talk : TalkState) (found : Option ℕ) → head_len (take 16384 talk.unread) ≡ found → first talk ≡ first_at found talk
unfolding first
first_by talk found e = ap (λ o. first_at o talk) e

-- ---- an item leaves the talk's end as it was

abbrev Keeps : TalkState → First → Type 0
Keeps talk f = (item : Item) (after : TalkState) → f ≡ Has item after → after.ended ≡ talk.ended

keeps_same : (talk : TalkState) (some : Item) → Keeps talk (Has some talk)
keeps_same talk some item after h = let e : talk ≡ after = cc in sym (ap (λ (t : TalkState). t.ended) e)

keeps_end : (talk : TalkState) (some : Item) (b : Bool) → Keeps talk (cond b (Has some talk) Wants)
keeps_end talk some true = keeps_same talk some
keeps_end talk some false = λ item after h. absurd cc

pub first_keeps : (talk : TalkState) → Keeps talk (first talk)
first_keeps talk = at (head_len (take 16384 talk.unread)) refl
  where
    without : (a b : Bool) → Keeps talk (cond a (Has (Close 431) talk) (cond talk.ended (Has (cond b End Cut) talk) Wants))
    without true b = keeps_same talk (Close 431)
    without false b = keeps_end talk (cond b End Cut) talk.ended

    moved : (some : Item) (to : TalkState) → to.ended ≡ talk.ended → Keeps talk (Has some to)
    moved some to same = λ item after h. (let e : to ≡ after = cc in sym (ap (λ (t : TalkState). t.ended) e) ∙ same)

    whole : (head : HeadParts) (n : ℕ) (rest : List ℕ) (w : Bool) → Keeps talk (cond w (Has Continue (record talk { continued = true })) (Has (Request (raw_of head (take n rest))) (record talk { unread = drop n rest; continued = false })))
    whole head n rest true = moved Continue (record talk { continued = true }) refl
    whole head n rest false = moved (Request (raw_of head (take n rest))) (record talk { unread = drop n rest; continued = false }) refl

    body : (head : HeadParts) (n : ℕ) (rest : List ℕ) (a : Bool) → Keeps talk (cond a (with_whole head n rest talk) (cond talk.ended (Has Cut talk) Wants))
    body head n rest true = whole head n rest (expects head.minor head.headers n && not talk.continued)
    body head n rest false = keeps_end talk Cut talk.ended

    judged : (j : Judgement) (rest : List ℕ) → Keeps talk (with_head j rest talk)
    judged (Closes status) rest = keeps_same talk (Close status)
    judged (Accepts head n) rest = body head n rest (nat_le n (length rest))

    found : (o : Option ℕ) → Keeps talk (first_at o talk)
    found None = without (nat_le 16384 (length talk.unread)) (leading talk.unread == length talk.unread)
    found (Some n) = judged (judgement_of (take n talk.unread)) (drop n talk.unread)

    at : (o : Option ℕ) → head_len (take 16384 talk.unread) ≡ o → Keeps talk (first talk)
    at o e = subst (Keeps talk) (sym (first_by talk o e)) (found o)

-- ---- an item found before the end stays when more bytes follow

-- the first n elements of a longer list go on from those of the shorter
pub take_longer : (n : ℕ) (b p : List ℕ) → take n (b ++ p) ≡ take n b ++ take (n - length b) p
take_longer zero b p = let e : 0 - length b ≡ 0 = omega arith in rw e refl
take_longer (suc n) [] p = let e : suc n - 0 ≡ suc n = omega arith in rw e refl
take_longer (suc n) (x ∷ b) p = let e : suc n - suc (length b) ≡ n - length b = omega arith in rw e (ap (λ (l : List ℕ). x ∷ l) (take_longer n b p))

pub first_more : (talk after : TalkState) (item : Item) (more : List ℕ) (ended : Bool) → talk.ended ≡ false → first talk ≡ Has item after
    → first (grown talk more ended) ≡ Has item (grown after more ended)
first_more talk after item more ended before h = at (head_len (take 16384 talk.unread)) refl
  where
    same : ◌≡◌ {A = First} (Has item talk) (Has item after) → ◌≡◌ {A = First} (Has item (grown talk more ended)) (Has item (grown after more ended))
    same e = let t : talk ≡ after = cc in ap (λ (t : TalkState). Has item (grown t more ended)) t

    stays : (some : Item) → Has some talk ≡ Has item after → Has some (grown talk more ended) ≡ Has item (grown after more ended)
    stays some e = let i : some ≡ item = cc in let t : talk ≡ after = cc in ap (λ (s : Item). Has s (grown talk more ended)) i ∙ ap (λ (t : TalkState). Has item (grown t more ended)) t

    never : (some : Item) → cond talk.ended (Has some talk) Wants ≡ Has item after → ⊥
    never some e = let w : Wants ≡ Has item after = sym (ap (λ b. cond b (Has some talk) Wants) before) ∙ e in cc

    none : (a : Bool) → nat_le 16384 (length talk.unread) ≡ a → head_len (take 16384 talk.unread) ≡ None
        → cond a (Has (Close 431) talk) (cond talk.ended (Has (cond (leading talk.unread == length talk.unread) End Cut) talk) Wants) ≡ Has item after
        → first (grown talk more ended) ≡ Has item (grown after more ended)
    none true e f g =
        let long : 16384 ≤ length talk.unread = grind (arith, nat_tests) in
        let window : take 16384 (talk.unread ++ more) ≡ take 16384 talk.unread = take-append-le 16384 talk.unread more long in
        let size = length-append talk.unread more in
        let longer : nat_le 16384 (length (talk.unread ++ more)) ≡ true = grind (arith, nat_tests) in
        first_by (grown talk more ended) None (ap head_len window ∙ f)
        ∙ ap (λ a. cond a (Has (Close 431) (grown talk more ended)) (at_end (grown talk more ended) (cond (leading (talk.unread ++ more) == length (talk.unread ++ more)) End Cut))) longer
        ∙ stays (Close 431) g
    none false e f g = absurd (never (cond (leading talk.unread == length talk.unread) End Cut) g)

    whole : (head : HeadParts) (k : ℕ) (rest : List ℕ) → k ≤ length rest → (w : Bool) → (expects head.minor head.headers k && not talk.continued) ≡ w
        → cond w (Has Continue (record talk { continued = true })) (Has (Request (raw_of head (take k rest))) (record talk { unread = drop k rest; continued = false })) ≡ Has item after
        → with_whole head k (rest ++ more) (grown talk more ended) ≡ Has item (grown after more ended)
    whole head k rest fits true e g =
        let i : Continue ≡ item = cc in
        let t : ◌≡◌ {A = TalkState} (record talk { continued = true }) after = cc in
        ap (λ w. cond w (Has Continue (record (grown talk more ended) { continued = true })) (Has (Request (raw_of head (take k (rest ++ more)))) (record (grown talk more ended) { unread = drop k (rest ++ more); continued = false }))) e
        ∙ ap (λ (s : Item). Has s (grown (record talk { continued = true }) more ended)) i
        ∙ ap (λ (t : TalkState). Has item (grown t more ended)) t
    whole head k rest fits false e g =
        let i : Request (raw_of head (take k rest)) ≡ item = cc in
        let t : ◌≡◌ {A = TalkState} (record talk { unread = drop k rest; continued = false }) after = cc in
        ap (λ w. cond w (Has Continue (record (grown talk more ended) { continued = true })) (Has (Request (raw_of head (take k (rest ++ more)))) (record (grown talk more ended) { unread = drop k (rest ++ more); continued = false }))) e
        ∙ ap (λ (b : List ℕ). Has (Request (raw_of head b)) (record (grown talk more ended) { unread = drop k (rest ++ more); continued = false })) (take-append-le k rest more fits)
        ∙ ap (λ (u : List ℕ). Has (Request (raw_of head (take k rest))) (record (grown talk more ended) { unread = u; continued = false })) (drop-append-le k rest more fits)
        ∙ ap (λ (s : Item). Has s (grown (record talk { unread = drop k rest; continued = false }) more ended)) i
        ∙ ap (λ (t : TalkState). Has item (grown t more ended)) t

    body : (head : HeadParts) (k : ℕ) (rest : List ℕ) (a : Bool) → nat_le k (length rest) ≡ a
        → cond a (with_whole head k rest talk) (cond talk.ended (Has Cut talk) Wants) ≡ Has item after
        → with_body head k (rest ++ more) (grown talk more ended) ≡ Has item (grown after more ended)
    body head k rest true e g =
        let fits : k ≤ length rest = grind (arith, nat_tests) in
        let size = length-append rest more in
        let still : nat_le k (length (rest ++ more)) ≡ true = grind (arith, nat_tests) in
        ap (λ a. cond a (with_whole head k (rest ++ more) (grown talk more ended)) (at_end (grown talk more ended) Cut)) still
        ∙ whole head k rest fits (expects head.minor head.headers k && not talk.continued) refl g
    body head k rest false e g = absurd (never Cut g)

    judged : (j : Judgement) (rest : List ℕ) → with_head j rest talk ≡ Has item after → with_head j (rest ++ more) (grown talk more ended) ≡ Has item (grown after more ended)
    judged (Closes status) rest g = stays (Close status) g
    judged (Accepts head k) rest g = body head k rest (nat_le k (length rest)) refl g

    at : (o : Option ℕ) → head_len (take 16384 talk.unread) ≡ o → first (grown talk more ended) ≡ Has item (grown after more ended)
    at None e = none (nat_le 16384 (length talk.unread)) refl e (sym (first_by talk None e) ∙ h)
    at (Some n) e =
        let within = head_within (take 16384 talk.unread) n e in
        let fits : n ≤ length talk.unread = (let k = length-take 16384 talk.unread in omega arith) in
        first_by (grown talk more ended) (Some n) (ap head_len (take_longer 16384 talk.unread more) ∙ head_more (take 16384 talk.unread) (take (16384 - length talk.unread) more) n e)
        ∙ ap (λ (f : List ℕ). with_head (judgement_of f) (drop n (talk.unread ++ more)) (grown talk more ended)) (take-append-le n talk.unread more fits)
        ∙ ap (λ (r : List ℕ). with_head (judgement_of (take n talk.unread)) r (grown talk more ended)) (drop-append-le n talk.unread more fits)
        ∙ judged (judgement_of (take n talk.unread)) (drop n talk.unread) (sym (first_by talk (Some n) e) ∙ h)

-- ---- an item behind which others may come makes a talk lighter

-- two for each unread byte, and one less where the 100 line was given
abbrev pub weight : TalkState → ℕ
weight talk = 2 * length talk.unread - cond talk.continued 1 0

pub weight_few : (talk : TalkState) → weight talk ≤ 2 * length talk.unread
weight_few talk = omega arith

lighter_bytes : (talk : TalkState) (u : List ℕ) → length u < length talk.unread → weight (record talk { unread = u; continued = false }) < weight talk
lighter_bytes talk u l = at talk.continued
  where
    at : (b : Bool) → 2 * length u - 0 < 2 * length talk.unread - cond b 1 0
    at true = omega arith
    at false = omega arith

lighter_flag : (talk : TalkState) → 0 < length talk.unread → talk.continued ≡ false → weight (record talk { continued = true }) < weight talk
lighter_flag talk l e = rw e (omega arith)

pub first_lighter : (talk after : TalkState) (item : Item) → first talk ≡ Has item after → goes_on item ≡ true → weight after < weight talk
first_lighter talk after item h goes = at (head_len (take 16384 talk.unread)) refl
  where
    stops : (some : Item) → goes_on some ≡ false → Has some talk ≡ Has item after → ⊥
    stops some over e = let i : some ≡ item = cc in let w : false ≡ true = sym over ∙ ap goes_on i ∙ goes in cc

    end_or_cut : (b : Bool) → goes_on (cond b End Cut) ≡ false
    end_or_cut true = refl
    end_or_cut false = refl

    at_the_end : (some : Item) → goes_on some ≡ false → (b : Bool) → cond b (Has some talk) Wants ≡ Has item after → ⊥
    at_the_end some over true e = stops some over e
    at_the_end some over false e = cc

    none : (a b : Bool) → cond a (Has (Close 431) talk) (cond talk.ended (Has (cond b End Cut) talk) Wants) ≡ Has item after → ⊥
    none true b e = stops (Close 431) refl e
    none false b e = at_the_end (cond b End Cut) (end_or_cut b) talk.ended e

    new : (w c : Bool) → (w && not c) ≡ true → c ≡ false
    new w false e = refl
    new true true e = absurd cc
    new false true e = absurd cc

    whole : (n : ℕ) → 0 < n → n ≤ length talk.unread → (head : HeadParts) (k : ℕ) (w : Bool) → (expects head.minor head.headers k && not talk.continued) ≡ w
        → cond w (Has Continue (record talk { continued = true })) (Has (Request (raw_of head (take k (drop n talk.unread)))) (record talk { unread = drop k (drop n talk.unread); continued = false })) ≡ Has item after
        → weight after < weight talk
    whole n some fits head k true t e =
        let s : ◌≡◌ {A = TalkState} (record talk { continued = true }) after = cc in
        subst (λ (t : TalkState). weight t < weight talk) s (lighter_flag talk (omega arith) (new (expects head.minor head.headers k) talk.continued t))
    whole n some fits head k false t e =
        let s : ◌≡◌ {A = TalkState} (record talk { unread = drop k (drop n talk.unread); continued = false }) after = cc in
        let d = length-drop n talk.unread in
        let f = length-drop k (drop n talk.unread) in
        subst (λ (t : TalkState). weight t < weight talk) s (lighter_bytes talk (drop k (drop n talk.unread)) (omega arith))

    body : (n : ℕ) → 0 < n → n ≤ length talk.unread → (head : HeadParts) (k : ℕ) (a : Bool)
        → cond a (with_whole head k (drop n talk.unread) talk) (cond talk.ended (Has Cut talk) Wants) ≡ Has item after
        → weight after < weight talk
    body n some fits head k true e = whole n some fits head k (expects head.minor head.headers k && not talk.continued) refl e
    body n some fits head k false e = absurd (at_the_end Cut refl talk.ended e)

    judged : (n : ℕ) → 0 < n → n ≤ length talk.unread → (j : Judgement) → with_head j (drop n talk.unread) talk ≡ Has item after → weight after < weight talk
    judged n some fits (Closes status) e = absurd (stops (Close status) refl e)
    judged n some fits (Accepts head k) e = body n some fits head k (nat_le k (length (drop n talk.unread))) e

    at : (o : Option ℕ) → head_len (take 16384 talk.unread) ≡ o → weight after < weight talk
    at None e = absurd (none (nat_le 16384 (length talk.unread)) (leading talk.unread == length talk.unread) (sym (first_by talk None e) ∙ h))
    at (Some n) e =
        let within = head_within (take 16384 talk.unread) n e in
        let some = head_some (take 16384 talk.unread) n e in
        let k = length-take 16384 talk.unread in
        judged n some (omega arith) (judgement_of (take n talk.unread)) (sym (first_by talk (Some n) e) ∙ h)
