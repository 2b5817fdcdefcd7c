-- Reading until an item is there.
use Rattle.std.proofs.Common.{◌≡◌, ℕ, ◌-◌, ◌<◌, ◌≤◌, ◌⊎◌, true, false, List, [], ◌++◌, length, take, sym, ap, ◌∙◌, inl, inr, append_assoc, arith}
use Rattle.std.proofs.lemmas.List.{append-nil, length-append, length-take}
use Rattle.ph_io.specs.Told.{SourceState}
use Rattle.ph_io.specs.Reads.{Moves}
use Rattle.ph_http.specs.declared.message.Next.{Next}
use Rattle.ph_http.specs.declared.message.Next.TheVariants as next
use Rattle.ph_http.specs.Items.{Continue, Request, Close, Cut, End, Wants, Has, first}
use Rattle.ph_http.specs.Talk.{Gives}
use Rattle.ph_http.specs.TalkState.{TalkState, grown}
use Rattle.ph_http.proofs.EndLemmas.{wants_few}
use Rattle.ph_conn.proofs.ItemFacts.{last_after}

-- some bytes were read so far, and stand behind those that were unread
pub record Reading (old now : TalkState) (source0 source1 : SourceState) : Type 0 where
  pub bytes : List ℕ
  pub moved : Moves source0 source1 bytes
  pub talk : now ≡ grown old bytes false

-- more bytes may follow
pub still : {old now : TalkState} {source0 source1 : SourceState} → Reading old now source0 source1 → now.ended ≡ false
still reading = ap (λ (t : TalkState). t.ended) reading.talk

pub reads-nothing : (talk : TalkState) (source : SourceState) → talk.ended ≡ false → Moves source source [] → Reading talk talk source source
reads-nothing talk source still moved = record {
  bytes = [];
  moved = moved;
  talk = ap (λ (u : List ℕ). record talk { unread = u }) (sym (append-nil talk.unread)) ∙ ap (λ b. grown talk [] b) still;
}

-- the talk with a piece more
pub fed_talk : (old now : TalkState) (bytes piece : List ℕ) → now ≡ grown old bytes false → record now { unread = now.unread ++ piece } ≡ grown old (bytes ++ piece) false
fed_talk old now bytes piece h =
    ap (λ (t : TalkState). record t { unread = t.unread ++ piece }) h
    ∙ ap (λ (u : List ℕ). record old { unread = u; ended = false }) (append_assoc old.unread bytes piece)

-- what a talk gives at the end, where more was wanted
abbrev pub GivesEnd : TalkState → Next → Type 0
GivesEnd talk next.End = first talk ≡ Has End talk
GivesEnd talk next.Cut = first talk ≡ Has Cut talk
GivesEnd talk next.More = ⊥
GivesEnd talk next.Continue = ⊥
GivesEnd talk (next.Close status) = ⊥
GivesEnd talk (next.Request raw) = ⊥

pub gives_end : (talk new : TalkState) (answer : Next) → talk.ended ≡ true → first (record talk { ended = false }) ≡ Wants → Gives talk answer new → GivesEnd talk answer
gives_end talk new answer ended wanted gives = at (last_after talk ended wanted) answer gives
  where
    at : (first talk ≡ Has End talk) ⊎ (first talk ≡ Has Cut talk) → (answer : Next) → Gives talk answer new → GivesEnd talk answer
    at last next.End gives = gives.0
    at last next.Cut gives = gives.0
    at (inl h) next.More gives = let both : Has End talk ≡ Wants = sym h ∙ gives.0 in cc
    at (inr h) next.More gives = let both : Has Cut talk ≡ Wants = sym h ∙ gives.0 in cc
    at (inl h) next.Continue gives = let both : Has End talk ≡ Has Continue new = sym h ∙ gives.0 in cc
    at (inr h) next.Continue gives = let both : Has Cut talk ≡ Has Continue new = sym h ∙ gives.0 in cc
    at (inl h) (next.Close status) gives = let both : Has End talk ≡ Has (Close status) talk = sym h ∙ gives.0 in cc
    at (inr h) (next.Close status) gives = let both : Has Cut talk ≡ Has (Close status) talk = sym h ∙ gives.0 in cc
    at (inl h) (next.Request raw) gives = let both : Has End talk ≡ Has (Request raw) new = sym h ∙ gives.0 in cc
    at (inr h) (next.Request raw) gives = let both : Has Cut talk ≡ Has (Request raw) new = sym h ∙ gives.0 in cc

-- a piece that was fed leaves less to go
pub nearer : (old new : TalkState) (room : List ℕ) (n : ℕ) → Gives old next.More new → 0 < n → n ≤ length room → 100000 - length (new.unread ++ take n room) < 100000 - length old.unread
nearer old new room n gives some within =
    let few = wants_few old gives.0 in
    let same = ap (λ (t : TalkState). length t.unread) gives.1 in
    let joined = length-append new.unread (take n room) in
    let taken = length-take n room in
    omega arith
