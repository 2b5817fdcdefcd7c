-- What comes at the end, and how many bytes are unread where more are wanted.
use Rattle.std.proofs.Common.{◌≡◌, ℕ, ◌<◌, ◌≤◌, ◌==◌, ◌⊎◌, ◌&&◌, not, Bool, true, false, cond, nat_le, List, length, take, drop, codes, Option, Some, None, refl, sym, ap, ◌∙◌, subst, inl, inr, arith}
use Rattle.std.proofs.lemmas.List.{length-take, length-drop}
use Rattle.std.proofs.lemmas.Bool.Decides.{nat_tests}
use Rattle.ph_head.specs.Parts.{HeadParts, parts_in}
use Rattle.ph_http.specs.declared.verdict.Verdict.{Verdict}
use Rattle.ph_http.specs.declared.verdict.Verdict.TheVariants.{Refuses, Takes}
use Rattle.ph_http.specs.Cut.{leading, head_len}
use Rattle.ph_http.specs.Digits.{is_same_number, number_of}
use Rattle.ph_http.specs.Headers.{Headers, value_of, all_values}
use Rattle.ph_http.specs.Items.{Item, Continue, Request, Close, Cut, End, First, Wants, Has, with_whole, with_head, first_at, first}
use Rattle.ph_http.specs.Lines.{has_too_many_lines, has_other_version}
use Rattle.ph_http.specs.Requests.{raw_of, expects}
use Rattle.ph_http.specs.TalkState.{TalkState}
use Rattle.ph_http.specs.Verdict.{Judgement, Closes, Accepts, judgement_of, by_head, by_verdict, verdict_of, by_length, by_number, is_served, has_coding}
use Rattle.ph_http.proofs.CutLemmas.{head_within}
use Rattle.ph_http.proofs.FirstLemmas.{first_by}

-- ---- the end

-- a whole request isn't the want of more
whole_is_some : (talk : TalkState) (head : HeadParts) (k : ℕ) (rest : List ℕ) → with_whole head k rest talk ≡ Wants → ⊥
whole_is_some talk head k rest e = at (expects head.minor head.headers k && not talk.continued) e
  where
    at : (w : Bool) → cond w (Has Continue (record talk { continued = true })) (Has (Request (raw_of head (take k rest))) (record talk { unread = drop k rest; continued = false })) ≡ Wants → ⊥
    at true e = cc
    at false e = cc

-- where more bytes are wanted, the end hasn't come
pub wants_open : (talk : TalkState) → first talk ≡ Wants → talk.ended ≡ false
wants_open talk h = at (head_len (take 16384 talk.unread)) refl
  where
    end : (some : Item) (b : Bool) → cond b (Has some talk) Wants ≡ Wants → b ≡ false
    end some true e = absurd cc
    end some false e = refl

    none : (a b : Bool) → cond a (Has (Close 431) talk) (cond talk.ended (Has (cond b End Cut) talk) Wants) ≡ Wants → talk.ended ≡ false
    none true b e = absurd cc
    none false b e = end (cond b End Cut) talk.ended e

    body : (head : HeadParts) (k : ℕ) (rest : List ℕ) (a : Bool) → cond a (with_whole head k rest talk) (cond talk.ended (Has Cut talk) Wants) ≡ Wants → talk.ended ≡ false
    body head k rest true e = absurd (whole_is_some talk head k rest e)
    body head k rest false e = end Cut talk.ended e

    judged : (j : Judgement) (rest : List ℕ) → with_head j rest talk ≡ Wants → talk.ended ≡ false
    judged (Closes status) rest e = absurd cc
    judged (Accepts head k) rest e = body head k rest (nat_le k (length rest)) e

    at : (o : Option ℕ) → head_len (take 16384 talk.unread) ≡ o → talk.ended ≡ false
    at None e = none (nat_le 16384 (length talk.unread)) (leading talk.unread == length talk.unread) (sym (first_by talk None e) ∙ h)
    at (Some n) e = judged (judgement_of (take n talk.unread)) (drop n talk.unread) (sym (first_by talk (Some n) e) ∙ h)

-- before the end is told, no end comes
abbrev pub NoEnd : First → Type 0
NoEnd f = (after : TalkState) → (f ≡ Has End after → ⊥) × (f ≡ Has Cut after → ⊥)

pub no_end : (talk : TalkState) → talk.ended ≡ false → NoEnd (first talk)
no_end talk before = at (head_len (take 16384 talk.unread)) refl
  where
    end : (some : Item) (b : Bool) → b ≡ false → NoEnd (cond b (Has some talk) Wants)
    end some true e = absurd cc
    end some false e = λ after. (λ g. cc, λ g. cc)

    none : (a b : Bool) → NoEnd (cond a (Has (Close 431) talk) (cond talk.ended (Has (cond b End Cut) talk) Wants))
    none true b = λ after. (λ g. cc, λ g. cc)
    none false b = end (cond b End Cut) talk.ended before

    whole : (head : HeadParts) (k : ℕ) (rest : List ℕ) (w : Bool) → NoEnd (cond w (Has Continue (record talk { continued = true })) (Has (Request (raw_of head (take k rest))) (record talk { unread = drop k rest; continued = false })))
    whole head k rest true = λ after. (λ g. cc, λ g. cc)
    whole head k rest false = λ after. (λ g. cc, λ g. cc)

    body : (head : HeadParts) (k : ℕ) (rest : List ℕ) (a : Bool) → NoEnd (cond a (with_whole head k rest talk) (cond talk.ended (Has Cut talk) Wants))
    body head k rest true = whole head k rest (expects head.minor head.headers k && not talk.continued)
    body head k rest false = end Cut talk.ended before

    judged : (j : Judgement) (rest : List ℕ) → NoEnd (with_head j rest talk)
    judged (Closes status) rest = λ after. (λ g. cc, λ g. cc)
    judged (Accepts head k) rest = body head k rest (nat_le k (length rest))

    found : (o : Option ℕ) → NoEnd (first_at o talk)
    found None = none (nat_le 16384 (length talk.unread)) (leading talk.unread == length talk.unread)
    found (Some n) = judged (judgement_of (take n talk.unread)) (drop n talk.unread)

    at : (o : Option ℕ) → head_len (take 16384 talk.unread) ≡ o → NoEnd (first talk)
    at o e = subst NoEnd (sym (first_by talk o e)) (found o)

-- where more bytes are wanted and the end comes, it is an End or a Cut
abbrev pub IsLast : TalkState → First → Type 0
IsLast talk f = (f ≡ Has End talk) ⊎ (f ≡ Has Cut talk)

pub last_after : (talk : TalkState) → first talk ≡ Wants → IsLast (record talk { ended = true }) (first (record talk { ended = true }))
last_after talk h = at (head_len (take 16384 talk.unread)) refl
  where
    either : (b : Bool) → IsLast (record talk { ended = true }) (Has (cond b End Cut) (record talk { ended = true }))
    either true = inl refl
    either false = inr refl

    none : (a b : Bool) → cond a (Has (Close 431) talk) (cond talk.ended (Has (cond b End Cut) talk) Wants) ≡ Wants
        → IsLast (record talk { ended = true }) (cond a (Has (Close 431) (record talk { ended = true })) (Has (cond b End Cut) (record talk { ended = true })))
    none true b e = absurd cc
    none false b e = either b

    body : (head : HeadParts) (k : ℕ) (rest : List ℕ) (a : Bool) → cond a (with_whole head k rest talk) (cond talk.ended (Has Cut talk) Wants) ≡ Wants
        → IsLast (record talk { ended = true }) (cond a (with_whole head k rest (record talk { ended = true })) (Has Cut (record talk { ended = true })))
    body head k rest true e = absurd (whole_is_some talk head k rest e)
    body head k rest false e = inr refl

    judged : (j : Judgement) (rest : List ℕ) → with_head j rest talk ≡ Wants → IsLast (record talk { ended = true }) (with_head j rest (record talk { ended = true }))
    judged (Closes status) rest e = absurd cc
    judged (Accepts head k) rest e = body head k rest (nat_le k (length rest)) e

    found : (o : Option ℕ) → first_at o talk ≡ Wants → IsLast (record talk { ended = true }) (first_at o (record talk { ended = true }))
    found None e = none (nat_le 16384 (length talk.unread)) (leading talk.unread == length talk.unread) e
    found (Some n) e = judged (judgement_of (take n talk.unread)) (drop n talk.unread) e

    at : (o : Option ℕ) → head_len (take 16384 talk.unread) ≡ o → IsLast (record talk { ended = true }) (first (record talk { ended = true }))
    at o e = subst (IsLast (record talk { ended = true })) (sym (first_by (record talk { ended = true }) o e)) (found o (sym (first_by talk o e) ∙ h))

-- ---- how many bytes are unread where more are wanted

limit_of : (n k : ℕ) → by_number n ≡ Takes k → k ≤ 65536
limit_of n k h = at (nat_le n 65536) refl h
  where
    at : (a : Bool) → nat_le n 65536 ≡ a → cond a (Takes n) (Refuses 413) ≡ Takes k → k ≤ 65536
    at true e h = let s : n ≡ k = cc in grind (arith, nat_tests)
    at false e h = absurd cc

length_limit : (o : Option (List ℕ)) (headers : Headers) (k : ℕ) → by_length o headers ≡ Takes k → k ≤ 65536
length_limit None headers k h = let s : 0 ≡ k = cc in omega arith
length_limit (Some value) headers k h = at (all_values (is_same_number value) (codes "content-length") headers) h
  where
    at : (a : Bool) → cond a (by_number (number_of value)) (Refuses 400) ≡ Takes k → k ≤ 65536
    at true h = limit_of (number_of value) k h
    at false h = absurd cc

verdict_limit : (method : List ℕ) (headers : Headers) (k : ℕ) → verdict_of method headers ≡ Takes k → k ≤ 65536
unfolding verdict_of
verdict_limit method headers k h = at (is_served method && not (has_coding headers)) h
  where
    at : (a : Bool) → cond a (by_length (value_of (codes "content-length") headers) headers) (Refuses 501) ≡ Takes k → k ≤ 65536
    at true h = length_limit (value_of (codes "content-length") headers) headers k h
    at false h = absurd cc

head_limit : (o : Option HeadParts) (head : HeadParts) (k : ℕ) → by_head o ≡ Accepts head k → k ≤ 65536
head_limit None head k g = absurd cc
head_limit (Some some) head k g = by (verdict_of some.method some.headers) refl g
  where
    by : (v : Verdict) → verdict_of some.method some.headers ≡ v → by_verdict some v ≡ Accepts head k → k ≤ 65536
    by (Refuses status) e g = absurd cc
    by (Takes n) e g = let s : n ≡ k = cc in verdict_limit some.method some.headers k (e ∙ ap Takes s)

-- a body has at most 65,536 bytes
pub body_limited : (bytes : List ℕ) (head : HeadParts) (k : ℕ) → judgement_of bytes ≡ Accepts head k → k ≤ 65536
unfolding judgement_of
body_limited bytes head k h = at (has_too_many_lines bytes) (has_other_version bytes) h
  where
    at : (a b : Bool) → cond a (Closes 431) (cond b (Closes 505) (by_head (parts_in bytes))) ≡ Accepts head k → k ≤ 65536
    at true b g = absurd cc
    at false true g = absurd cc
    at false false g = head_limit (parts_in bytes) head k g

pub wants_few : (talk : TalkState) → first talk ≡ Wants → length talk.unread < 81920
wants_few talk h = at (head_len (take 16384 talk.unread)) refl
  where
    none : (a b : Bool) → nat_le 16384 (length talk.unread) ≡ a → cond a (Has (Close 431) talk) (cond talk.ended (Has (cond b End Cut) talk) Wants) ≡ Wants → length talk.unread < 81920
    none true b n e = absurd cc
    none false b n e = let l : length talk.unread < 16384 = grind (arith, nat_tests) in omega arith

    body : (n : ℕ) → n ≤ 16384 → (head : HeadParts) (k : ℕ) → k ≤ 65536 → (a : Bool) → nat_le k (length (drop n talk.unread)) ≡ a
        → cond a (with_whole head k (drop n talk.unread) talk) (cond talk.ended (Has Cut talk) Wants) ≡ Wants → length talk.unread < 81920
    body n fits head k few true t e = absurd (whole_is_some talk head k (drop n talk.unread) e)
    body n fits head k few false t e = let l : length (drop n talk.unread) < k = grind (arith, nat_tests) in let d = length-drop n talk.unread in omega arith

    judged : (n : ℕ) → n ≤ 16384 → (j : Judgement) → judgement_of (take n talk.unread) ≡ j → with_head j (drop n talk.unread) talk ≡ Wants → length talk.unread < 81920
    judged n fits (Closes status) g e = absurd cc
    judged n fits (Accepts head k) g e = body n fits head k (body_limited (take n talk.unread) head k g) (nat_le k (length (drop n talk.unread))) refl e

    at : (o : Option ℕ) → head_len (take 16384 talk.unread) ≡ o → length talk.unread < 81920
    at None e = none (nat_le 16384 (length talk.unread)) (leading talk.unread == length talk.unread) refl (sym (first_by talk None e) ∙ h)
    at (Some n) e = judged n (let w = head_within (take 16384 talk.unread) n e in let t = length-take 16384 talk.unread in omega arith) (judgement_of (take n talk.unread)) refl (sym (first_by talk (Some n) e) ∙ h)
