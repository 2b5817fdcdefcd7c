-- What the first bytes of an answer say, and what follows them.
use Rattle.std.proofs.Common.{◌≡◌, ℕ, ◌+◌, ◌-◌, ◌≤◌, List, ◌++◌, length, take, inl, inr, refl, sym, ap, subst, ◌∙◌, arith, take_all}
use Rattle.std.proofs.lemmas.List.{length-take-le, take-append-le}
use Rattle.std.proofs.Math.Seq.{take-append-add}
use Rattle.httparse.proofs.GrammarLemmas.{ReadsResponse-append}
use Rattle.ph_io.specs.Told.{SourceState}
use Rattle.ph_io.specs.Reads.{Moves, Ends, ReadFails}
use Rattle.ph_io.proofs.DeviceLemmas.{moves_then_ends, moves_then_fails, moves_twice}
use Rattle.ph_delivery.specs.declared.outcome.Outcome.TheVariants as outcome
use Rattle.ph_courier.specs.Answers.{HasStatus, HasNoStatus, answer_limit, outcome_of}
use Rattle.ph_courier.specs.Listens.{Listens}

-- n more bytes of the answer stand in the room behind those that stood there
pub read_on :
    {old between new : SourceState} (room piece rest : List ℕ) (at n : ℕ) → at ≤ length room →
    n ≤ length piece → Moves old between (take at room) → Moves between new (take n piece) →
    Moves old new (take (at + n) (take at room ++ (piece ++ rest)))
read_on {old} {between} {new} room piece rest at n within fits first second =
    let long : length (take at room) ≡ at = length-take-le at room within in
    let all = take at room ++ (piece ++ rest) in
    let front = ap (λ k. take (k + n) all) (sym long) ∙ take-append-add (take at room) (piece ++ rest) n in
    let back = ap (λ ys. take at room ++ ys) (take-append-le n piece rest fits) in
    subst (Moves old new) (sym (front ∙ back)) (moves_twice first second)

-- a head stays the head, whatever follows
pub status_stays :
    {bytes : List ℕ} {status : ℕ} (more : List ℕ) → HasStatus bytes status →
    HasStatus (bytes ++ more) status
status_stays {bytes} more has = record {
  head = has.head;
  rest = has.rest ++ more;
  reads = ReadsResponse-append bytes has.head has.rest more has.reads;
  room = has.room;
  status_is = has.status_is;
}

-- the first bytes of a longer list are a short list and the first of what follows it
first_bytes :
    (bytes more : List ℕ) → length bytes ≤ answer_limit →
    take answer_limit (bytes ++ more) ≡ bytes ++ take (answer_limit - length bytes) more
first_bytes bytes more short =
    let split : length bytes + (answer_limit - length bytes) ≡ answer_limit = omega arith in
    ap (λ n. take n (bytes ++ more)) (sym split)
    ∙ take-append-add bytes more (answer_limit - length bytes)

-- bytes that have a head say it, whatever follows them
pub heard_head :
    {old new : SourceState} {bytes : List ℕ} {status : ℕ} → Moves old new bytes →
    length bytes ≤ answer_limit → HasStatus bytes status → Listens old new (outcome_of status)
heard_head {old} {new} {bytes} {status} moved short has = inl (record {
  bytes = bytes;
  heard = inr (
    moved,
    λ more. inl (
      status,
      subst (λ first. HasStatus first status) (sym (first_bytes bytes more short))
          (status_stays (take (answer_limit - length bytes) more) has),
      refl,
    ),
  );
})

-- bytes that have none say so where the answer ends behind them
pub heard_end :
    {old between new : SourceState} {bytes : List ℕ} → Moves old between bytes →
    Ends between new → length bytes ≤ answer_limit → HasNoStatus bytes →
    Listens old new (outcome.Refused 0)
heard_end {old} {between} {new} {bytes} moved ended short none = inl (record {
  bytes = bytes;
  heard = inl (
    moves_then_ends moved ended,
    inr (subst HasNoStatus (sym (take_all answer_limit bytes short)) none, refl),
  );
})

-- and where they are as many as are looked at
pub heard_all :
    {old new : SourceState} {bytes : List ℕ} → Moves old new bytes →
    length bytes ≡ answer_limit → HasNoStatus bytes → Listens old new (outcome.Refused 0)
heard_all {old} {new} {bytes} moved long none = inl (record {
  bytes = bytes;
  heard = inr (
    moved,
    λ more. inr (
      subst HasNoStatus
          (sym (take-append-le answer_limit bytes more (omega arith) ∙ take_all answer_limit bytes (omega arith)))
          none,
      refl,
    ),
  );
})

-- a read that fails cuts it off
pub cut_off :
    {old between new : SourceState} {bytes : List ℕ} → Moves old between bytes →
    ReadFails between new → Listens old new outcome.Unreached
cut_off {old} {between} {new} {bytes} moved failed = inr (record {
  bytes = bytes;
  broke = moves_then_fails moved failed;
  outcome = refl;
})
