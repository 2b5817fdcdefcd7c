-- What `next` gives, at each of its exits.
use Rattle.std.proofs.Common.{◌≡◌, ℕ, ◌+◌, ◌<◌, ◌≤◌, ◌==◌, ◌&&◌, not, Bool, true, false, cond, nat_le, List, [], length, take, drop, min, Some, None, refl, sym, ap, ◌∙◌, arith}
use Rattle.std.proofs.lemmas.List.{take_min, drop-drop}
use Rattle.std.proofs.lemmas.Bool.Decides.{nat_tests}
use Rattle.ph_head.specs.Parts.{HeadParts}
use Rattle.ph_http.specs.declared.message.Raw.{Raw}
use Rattle.ph_http.specs.declared.message.Next.TheVariants as next
use Rattle.ph_http.specs.Cut.{leading, head_len}
use Rattle.ph_http.specs.Items.{Continue, Request, Close, Cut, End, Wants, Has, at_end, without_head, with_whole, with_head, first}
use Rattle.ph_http.specs.Requests.{raw_of, expects}
use Rattle.ph_http.specs.Talk.{Gives, next_of}
use Rattle.ph_http.specs.TalkState.{TalkState, talk_of}
use Rattle.ph_http.specs.Verdict.{Judgement, Closes, Accepts, judgement_of}
use Rattle.ph_http.proofs.FirstLemmas.{first_by}

-- the first 16,384 bytes
pub window : (bytes : List ℕ) → take (min (length bytes) 16384) bytes ≡ take 16384 bytes
window bytes = let e : min (length bytes) 16384 ≡ min 16384 (length bytes) = omega arith in rw e (take_min 16384 bytes)

gives_at_end : (talk : TalkState) (b : Bool) → first talk ≡ at_end talk (cond b End Cut) → Gives talk (next_of (at_end talk (cond b End Cut))) talk
gives_at_end talk b h = at talk.ended b h
  where
    at : (e b : Bool) → first talk ≡ cond e (Has (cond b End Cut) talk) Wants → Gives talk (next_of (cond e (Has (cond b End Cut) talk) Wants)) talk
    at true true h = (h, refl)
    at true false h = (h, refl)
    at false b h = (h, refl)

-- what is answered at the end doesn't hang on the rest of the talk
same_at_end : (a b : TalkState) (e c : Bool) → next_of (cond e (Has (cond c End Cut) a) Wants) ≡ next_of (cond e (Has (cond c End Cut) b) Wants)
same_at_end a b true true = refl
same_at_end a b true false = refl
same_at_end a b false c = refl

pub same_without : (bytes : List ℕ) (ended continued : Bool) → next_of (without_head (talk_of bytes ended)) ≡ next_of (without_head (record { unread = bytes; ended = ended; continued = continued }))
same_without bytes ended continued = at (nat_le 16384 (length bytes)) (leading bytes == length bytes)
  where
    at : (l c : Bool) → next_of (cond l (Has (Close 431) (talk_of bytes ended)) (cond ended (Has (cond c End Cut) (talk_of bytes ended)) Wants))
        ≡ next_of (cond l (Has (Close 431) (record { unread = bytes; ended = ended; continued = continued })) (cond ended (Has (cond c End Cut) (record { unread = bytes; ended = ended; continued = continued })) Wants))
    at true c = refl
    at false c = same_at_end (talk_of bytes ended) (record { unread = bytes; ended = ended; continued = continued }) ended c

pub same_part : (talk : TalkState) → next_of (at_end (talk_of [] talk.ended) Cut) ≡ next_of (at_end talk Cut)
same_part talk = same_at_end (talk_of [] talk.ended) talk talk.ended false

-- where no whole head is there
pub gives_no_head : (talk : TalkState) → head_len (take 16384 talk.unread) ≡ None → Gives talk (next_of (without_head talk)) talk
gives_no_head talk e = at (nat_le 16384 (length talk.unread)) (leading talk.unread == length talk.unread) (first_by talk None e)
  where
    at : (a b : Bool) → first talk ≡ cond a (Has (Close 431) talk) (at_end talk (cond b End Cut)) → Gives talk (next_of (cond a (Has (Close 431) talk) (at_end talk (cond b End Cut)))) talk
    at true b h = (h, refl)
    at false b h = gives_at_end talk b h

-- by what is done with the bytes of a head
first_judged : (talk : TalkState) (n : ℕ) (j : Judgement) → head_len (take 16384 talk.unread) ≡ Some n → judgement_of (take n talk.unread) ≡ j → first talk ≡ with_head j (drop n talk.unread) talk
first_judged talk n j e g = first_by talk (Some n) e ∙ ap (λ (j : Judgement). with_head j (drop n talk.unread) talk) g

-- a head that is refused
pub gives_close : (talk : TalkState) (n status : ℕ) → head_len (take 16384 talk.unread) ≡ Some n → judgement_of (take n talk.unread) ≡ Closes status → Gives talk (next.Close status) talk
gives_close talk n status e g = (first_judged talk n (Closes status) e g, refl)

-- a body of which a part is there
pub gives_part : (talk : TalkState) (n k : ℕ) (head : HeadParts) → head_len (take 16384 talk.unread) ≡ Some n → judgement_of (take n talk.unread) ≡ Accepts head k
    → length (drop n talk.unread) < k → Gives talk (next_of (at_end talk Cut)) talk
gives_part talk n k head e g l =
    let short : nat_le k (length (drop n talk.unread)) ≡ false = grind (arith, nat_tests) in
    gives_at_end talk false (first_judged talk n (Accepts head k) e g ∙ ap (λ b. cond b (with_whole head k (drop n talk.unread) talk) (at_end talk Cut)) short)

first_whole : (talk : TalkState) (n k : ℕ) (head : HeadParts) (w : Bool) → head_len (take 16384 talk.unread) ≡ Some n → judgement_of (take n talk.unread) ≡ Accepts head k
    → k ≤ length (drop n talk.unread) → (expects head.minor head.headers k && not talk.continued) ≡ w
    → first talk ≡ cond w (Has Continue (record talk { continued = true })) (Has (Request (raw_of head (take k (drop n talk.unread)))) (record talk { unread = drop k (drop n talk.unread); continued = false }))
first_whole talk n k head w e g l x =
    let whole : nat_le k (length (drop n talk.unread)) ≡ true = grind (arith, nat_tests) in
    first_judged talk n (Accepts head k) e g ∙ ap (λ b. cond b (with_whole head k (drop n talk.unread) talk) (at_end talk Cut)) whole
    ∙ ap (λ w. cond w (Has Continue (record talk { continued = true })) (Has (Request (raw_of head (take k (drop n talk.unread)))) (record talk { unread = drop k (drop n talk.unread); continued = false }))) x

-- the 100 line of a whole request
pub gives_continue : (talk : TalkState) (n k : ℕ) (head : HeadParts) → head_len (take 16384 talk.unread) ≡ Some n → judgement_of (take n talk.unread) ≡ Accepts head k
    → k ≤ length (drop n talk.unread) → (expects head.minor head.headers k && not talk.continued) ≡ true
    → Gives talk next.Continue (record talk { continued = true })
gives_continue talk n k head e g l x = (first_whole talk n k head true e g l x, refl)

-- a whole request
pub gives_request : (talk : TalkState) (n k : ℕ) (head : HeadParts) (raw : Raw) → head_len (take 16384 talk.unread) ≡ Some n → judgement_of (take n talk.unread) ≡ Accepts head k
    → k ≤ length (drop n talk.unread) → (expects head.minor head.headers k && not talk.continued) ≡ false → raw ≡ raw_of head (take k (drop n talk.unread))
    → Gives talk (next.Request raw) (record talk { unread = drop (n + k) talk.unread; continued = false })
gives_request talk n k head raw e g l x same = (
  first_whole talk n k head false e g l x
      ∙ ap (λ (r : Raw). Has (Request r) (record talk { unread = drop k (drop n talk.unread); continued = false })) (sym same)
      ∙ ap (λ (u : List ℕ). Has (Request raw) (record talk { unread = u; continued = false })) (drop-drop k n talk.unread),
  refl,
)
