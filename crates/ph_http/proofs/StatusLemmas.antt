-- The statuses that a session closes with, and what follows a 100 line.
use Rattle.std.proofs.Common.{◌≡◌, ℕ, ◌==◌, ◌&&◌, not, Bool, true, false, cond, nat_le, List, length, take, drop, codes, Option, Some, None, refl, sym, ap, ◌∙◌, subst}
use Rattle.ph_head.specs.Parts.{HeadParts, parts_in}
use Rattle.ph_http.specs.declared.message.Raw.{Raw}
use Rattle.ph_http.specs.declared.verdict.Verdict.{Verdict}
use Rattle.ph_http.specs.declared.verdict.Verdict.TheVariants.{Refuses, Takes}
use Rattle.ph_http.specs.Cut.{leading, head_len}
use Rattle.ph_http.specs.Digits.{is_same_number, number_of}
use Rattle.ph_http.specs.Headers.{Headers, value_of, all_values}
use Rattle.ph_http.specs.Items.{Item, Continue, Request, Close, Cut, End, First, Wants, Has, at_end, with_whole, with_head, first_at, first}
use Rattle.ph_http.specs.Lines.{has_too_many_lines, has_other_version}
use Rattle.ph_http.specs.Replies.{is_status}
use Rattle.ph_http.specs.Requests.{raw_of, expects}
use Rattle.ph_http.specs.TalkState.{TalkState}
use Rattle.ph_http.specs.Verdict.{Judgement, Closes, Accepts, judgement_of, by_head, by_verdict, verdict_of, by_length, by_number, is_served, has_coding}
use Rattle.ph_http.proofs.FirstLemmas.{first_by}

-- ---- statuses

-- a test that each status passes with which a session closes
pub record PassClosing (test : ℕ → Bool) : Type 0 where
  pub malformed : test 400 ≡ true
  pub too_large : test 413 ≡ true
  pub head_too_large : test 431 ≡ true
  pub not_implemented : test 501 ≡ true
  pub other_version : test 505 ≡ true

number_status : (test : ℕ → Bool) → PassClosing test → (n status : ℕ) → by_number n ≡ Refuses status → test status ≡ true
number_status test p n status h = at (nat_le n 65536) h
  where
    at : (a : Bool) → cond a (Takes n) (Refuses 413) ≡ Refuses status → test status ≡ true
    at true h = absurd cc
    at false h = let e : 413 ≡ status = cc in ap test (sym e) ∙ p.too_large

length_status : (test : ℕ → Bool) → PassClosing test → (o : Option (List ℕ)) (headers : Headers) (status : ℕ) → by_length o headers ≡ Refuses status → test status ≡ true
length_status test p None headers status h = absurd cc
length_status test p (Some value) headers status h = at (all_values (is_same_number value) (codes "content-length") headers) h
  where
    at : (a : Bool) → cond a (by_number (number_of value)) (Refuses 400) ≡ Refuses status → test status ≡ true
    at true h = number_status test p (number_of value) status h
    at false h = let e : 400 ≡ status = cc in ap test (sym e) ∙ p.malformed

verdict_status : (test : ℕ → Bool) → PassClosing test → (method : List ℕ) (headers : Headers) (status : ℕ) → verdict_of method headers ≡ Refuses status → test status ≡ true
unfolding verdict_of
verdict_status test p method headers status h = at (is_served method && not (has_coding headers)) h
  where
    at : (a : Bool) → cond a (by_length (value_of (codes "content-length") headers) headers) (Refuses 501) ≡ Refuses status → test status ≡ true
    at true h = length_status test p (value_of (codes "content-length") headers) headers status h
    at false h = let e : 501 ≡ status = cc in ap test (sym e) ∙ p.not_implemented

head_status : (test : ℕ → Bool) → PassClosing test → (o : Option HeadParts) (status : ℕ) → by_head o ≡ Closes status → test status ≡ true
head_status test p None status h = let e : 400 ≡ status = cc in ap test (sym e) ∙ p.malformed
head_status test p (Some head) status h = by (verdict_of head.method head.headers) refl h
  where
    by : (v : Verdict) → verdict_of head.method head.headers ≡ v → by_verdict head v ≡ Closes status → test status ≡ true
    by (Refuses refused) e g = let s : refused ≡ status = cc in verdict_status test p head.method head.headers status (e ∙ ap Refuses s)
    by (Takes n) e g = absurd cc

judgement_status : (test : ℕ → Bool) → PassClosing test → (bytes : List ℕ) (status : ℕ) → judgement_of bytes ≡ Closes status → test status ≡ true
unfolding judgement_of
judgement_status test p bytes status h = at (has_too_many_lines bytes) (has_other_version bytes) h
  where
    at : (a b : Bool) → cond a (Closes 431) (cond b (Closes 505) (by_head (parts_in bytes))) ≡ Closes status → test status ≡ true
    at true b g = let e : 431 ≡ status = cc in ap test (sym e) ∙ p.head_too_large
    at false true g = let e : 505 ≡ status = cc in ap test (sym e) ∙ p.other_version
    at false false g = head_status test p (parts_in bytes) status g

-- a session closes with a status that passes the test
abbrev pub ClosesKnown : (ℕ → Bool) → First → Type 0
ClosesKnown test f = (status : ℕ) (after : TalkState) → f ≡ Has (Close status) after → test status ≡ true

pub close_passes : (test : ℕ → Bool) → PassClosing test → (talk after : TalkState) (status : ℕ) → first talk ≡ Has (Close status) after → test status ≡ true
close_passes test p talk after status h = at (head_len (take 16384 talk.unread)) refl status after h
  where
    end : (b : Bool) → ClosesKnown test (cond talk.ended (Has (cond b End Cut) talk) Wants)
    end b = by talk.ended b
      where
        by : (e b : Bool) → ClosesKnown test (cond e (Has (cond b End Cut) talk) Wants)
        by true true = λ status after h. absurd cc
        by true false = λ status after h. absurd cc
        by false b = λ status after h. absurd cc

    none : (a b : Bool) → ClosesKnown test (cond a (Has (Close 431) talk) (cond talk.ended (Has (cond b End Cut) talk) Wants))
    none true b = λ status after h. (let e : 431 ≡ status = cc in ap test (sym e) ∙ p.head_too_large)
    none false b = end b

    whole : (head : HeadParts) (k : ℕ) (rest : List ℕ) (w : Bool) → ClosesKnown test (cond w (Has Continue (record talk { continued = true })) (Has (Request (raw_of head (take k rest))) (record talk { unread = drop k rest; continued = false })))
    whole head k rest true = λ status after h. absurd cc
    whole head k rest false = λ status after h. absurd cc

    body : (head : HeadParts) (k : ℕ) (rest : List ℕ) (a : Bool) → ClosesKnown test (cond a (with_whole head k rest talk) (cond talk.ended (Has Cut talk) Wants))
    body head k rest true = whole head k rest (expects head.minor head.headers k && not talk.continued)
    body head k rest false = end false

    judged : (bytes : List ℕ) (j : Judgement) (rest : List ℕ) → judgement_of bytes ≡ j → ClosesKnown test (with_head j rest talk)
    judged bytes (Closes closing) rest e = λ status after h. (let s : closing ≡ status = cc in judgement_status test p bytes status (e ∙ ap Closes s))
    judged bytes (Accepts head k) rest e = body head k rest (nat_le k (length rest))

    found : (o : Option ℕ) → ClosesKnown test (first_at o talk)
    found None = none (nat_le 16384 (length talk.unread)) (leading talk.unread == length talk.unread)
    found (Some n) = judged (take n talk.unread) (judgement_of (take n talk.unread)) (drop n talk.unread) refl

    at : (o : Option ℕ) → head_len (take 16384 talk.unread) ≡ o → ClosesKnown test (first talk)
    at o e = subst (ClosesKnown test) (sym (first_by talk o e)) (found o)

-- a session closes with a status that replies have
pub close_status : (talk after : TalkState) (status : ℕ) → first talk ≡ Has (Close status) after → is_status status ≡ true
close_status = close_passes is_status (record { malformed = refl; too_large = refl; head_too_large = refl; not_implemented = refl; other_version = refl })

-- ---- what follows a 100 line

pub record RequestNext (talk : TalkState) : Type 0 where
  pub raw : Raw
  pub last : TalkState
  pub next : first talk ≡ Has (Request raw) last

off : (w : Bool) → (w && false) ≡ false
off true = refl
off false = refl

pub request_after_continue : (talk after : TalkState) → first talk ≡ Has Continue after → RequestNext after
request_after_continue talk after h = at (head_len (take 16384 talk.unread)) refl
  where
    stops : (some : Item) → (some ≡ Continue → ⊥) → (b : Bool) → cond b (Has some talk) Wants ≡ Has Continue after → ⊥
    stops some other true e = other cc
    stops some other false e = cc

    end_or_cut : (b : Bool) → cond b End Cut ≡ Continue → ⊥
    end_or_cut true e = cc
    end_or_cut false e = cc

    none : (a b : Bool) → cond a (Has (Close 431) talk) (cond talk.ended (Has (cond b End Cut) talk) Wants) ≡ Has Continue after → ⊥
    none true b e = cc
    none false b e = stops (cond b End Cut) (end_or_cut b) talk.ended e

    request_at : (n k : ℕ) (head : HeadParts) → head_len (take 16384 talk.unread) ≡ Some n → judgement_of (take n talk.unread) ≡ Accepts head k
        → nat_le k (length (drop n talk.unread)) ≡ true → RequestNext (record talk { continued = true })
    request_at n k head e j l = record {
      raw = raw_of head (take k (drop n talk.unread));
      last = record talk { unread = drop k (drop n talk.unread); continued = false };
      next =
          first_by (record talk { continued = true }) (Some n) e
          ∙ ap (λ (j : Judgement). with_head j (drop n talk.unread) (record talk { continued = true })) j
          ∙ ap (λ a. cond a (with_whole head k (drop n talk.unread) (record talk { continued = true })) (at_end (record talk { continued = true }) Cut)) l
          ∙ ap (λ w. cond w (Has Continue (record talk { continued = true })) (Has (Request (raw_of head (take k (drop n talk.unread)))) (record talk { unread = drop k (drop n talk.unread); continued = false })))
          (off (expects head.minor head.headers k));
    }

    whole : (n k : ℕ) (head : HeadParts) → head_len (take 16384 talk.unread) ≡ Some n → judgement_of (take n talk.unread) ≡ Accepts head k
        → nat_le k (length (drop n talk.unread)) ≡ true → (w : Bool)
        → cond w (Has Continue (record talk { continued = true })) (Has (Request (raw_of head (take k (drop n talk.unread)))) (record talk { unread = drop k (drop n talk.unread); continued = false })) ≡ Has Continue after
        → RequestNext after
    whole n k head e j l true g =
        let s : ◌≡◌ {A = TalkState} (record talk { continued = true }) after = cc in
        subst RequestNext s (request_at n k head e j l)
    whole n k head e j l false g = absurd cc

    body : (n k : ℕ) (head : HeadParts) → head_len (take 16384 talk.unread) ≡ Some n → judgement_of (take n talk.unread) ≡ Accepts head k
        → (a : Bool) → nat_le k (length (drop n talk.unread)) ≡ a → cond a (with_whole head k (drop n talk.unread) talk) (cond talk.ended (Has Cut talk) Wants) ≡ Has Continue after → RequestNext after
    body n k head e j true l g = whole n k head e j l (expects head.minor head.headers k && not talk.continued) g
    body n k head e j false l g = absurd (stops Cut (λ c. cc) talk.ended g)

    judged : (n : ℕ) → head_len (take 16384 talk.unread) ≡ Some n → (j : Judgement) → judgement_of (take n talk.unread) ≡ j → with_head j (drop n talk.unread) talk ≡ Has Continue after → RequestNext after
    judged n e (Closes status) j g = absurd cc
    judged n e (Accepts head k) j g = body n k head e j (nat_le k (length (drop n talk.unread))) refl g

    at : (o : Option ℕ) → head_len (take 16384 talk.unread) ≡ o → RequestNext after
    at None e = absurd (none (nat_le 16384 (length talk.unread)) (leading talk.unread == length talk.unread) (sym (first_by talk None e) ∙ h))
    at (Some n) e = judged n e (judgement_of (take n talk.unread)) refl (sym (first_by talk (Some n) e) ∙ h)
