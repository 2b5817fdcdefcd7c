-- How reads and writes join: what several of them changed together.
use Rattle.std.proofs.Common.{◌≡◌, ℕ, ◌+◌, ◌-◌, ◌<◌, ◌≤◌, List, [], ◌++◌, length, take, drop, Option, Some, None, refl, sym, ap, subst, ◌∙◌, append_assoc, arith}
use Rattle.std.proofs.lemmas.List.{append-nil, take_rest, length-drop, length-append, take-append-le}
use Rattle.std.proofs.Math.Seq.{take-add, take-append-add}
use Rattle.ph_base.specs.Counts.{Rose}
use Rattle.ph_io.specs.Told.{SourceState, SinkState, BesideSource, BesideSink, followed_by, preceded_by, IsSpent}
use Rattle.ph_io.specs.declared.address.Address.{Address}
use Rattle.ph_io.specs.Reads.{Moves, Ends, ReadFails, EndsAfter, FailsAfter}
use Rattle.ph_io.specs.Writes.{Takes, WriteFails, TakesFront}

pub followed_twice :
    (told : Option (List ℕ)) (xs ys : List ℕ) →
    followed_by (followed_by told xs) ys ≡ followed_by told (xs ++ ys)
followed_twice None xs ys = refl
followed_twice (Some list) xs ys = ap Some (append_assoc list xs ys)

pub followed_by_nothing : (told : Option (List ℕ)) → told ≡ followed_by told []
followed_by_nothing None = refl
followed_by_nothing (Some list) = ap Some (sym (append-nil list))

pub preceded_twice :
    (told : Option (List ℕ)) (xs ys : List ℕ) →
    preceded_by (preceded_by told ys) xs ≡ preceded_by told (xs ++ ys)
preceded_twice None xs ys = refl
preceded_twice (Some list) xs ys = ap Some (sym (append_assoc xs ys list))

pub preceded_by_nothing : (told : Option (List ℕ)) → told ≡ preceded_by told []
preceded_by_nothing None = refl
preceded_by_nothing (Some list) = refl

-- no read at all
pub moves_nothing : (state : SourceState) → Moves state state []
moves_nothing state = record {
  left = preceded_by_nothing state.left;
  taken = followed_by_nothing state.taken;
  ends = refl;
  faults = refl;
}

-- a read after reads
pub moves_twice :
    {old between new : SourceState} {xs ys : List ℕ} → Moves old between xs →
    Moves between new ys → Moves old new (xs ++ ys)
moves_twice {old} {between} {new} {xs} {ys} first second = record {
  left = first.left ∙ ap (λ told. preceded_by told xs) second.left ∙ preceded_twice new.left xs ys;
  taken =
      second.taken ∙ ap (λ told. followed_by told ys) first.taken ∙ followed_twice old.taken xs ys;
  ends = second.ends ∙ first.ends;
  faults = second.faults ∙ first.faults;
}

-- the end after reads
pub moves_then_ends :
    {old between new : SourceState} {bytes : List ℕ} → Moves old between bytes →
    Ends between new → EndsAfter old new bytes
moves_then_ends {old} {between} {new} {bytes} first last = record {
  left = first.left ∙ ap (λ told. preceded_by told bytes) (sym last.left);
  spent = subst IsSpent (sym last.left) last.spent;
  taken = last.taken ∙ first.taken;
  counted = subst (λ before. Rose before new.ends) first.ends last.counted;
  not_fallen = subst (λ before. before ≤ new.ends) first.ends last.not_fallen;
  faults = last.faults ∙ first.faults;
}

-- a fault after reads
pub moves_then_fails :
    {old between new : SourceState} {bytes : List ℕ} → Moves old between bytes →
    ReadFails between new → FailsAfter old new bytes
moves_then_fails {old} {between} {new} {bytes} first last = record {
  left = first.left ∙ ap (λ told. preceded_by told bytes) (sym last.left);
  taken = last.taken ∙ first.taken;
  ends = last.ends ∙ first.ends;
  counted = subst (λ before. Rose before new.faults) first.faults last.counted;
  not_fallen = subst (λ before. before ≤ new.faults) first.faults last.not_fallen;
}

-- where a source tells what is left, a read that moved bytes found some
pub moves_from_some :
    {old new : SourceState} {piece list : List ℕ} → Moves old new piece → 0 < length piece →
    old.left ≡ Some list → 0 < length list
moves_from_some {old} {new} {piece} {list} moved some told =
    at new.left (sym told ∙ moved.left) where
      at : (left : Option (List ℕ)) → Some list ≡ preceded_by left piece → 0 < length list
      at None same = absurd (let never : Some list ≡ None = same in cc)
      at (Some rest) same =
          let found : Some list ≡ Some (piece ++ rest) = same in
          let whole : list ≡ piece ++ rest = cc in
          let long = ap length whole ∙ length-append piece rest in omega arith

-- where a source tells what is left, the bytes before its end are all that was left
pub ends_after_all :
    {old new : SourceState} {bytes list : List ℕ} → EndsAfter old new bytes →
    old.left ≡ Some list → list ≡ bytes
ends_after_all {old} {new} {bytes} {list} ended told =
    at new.left ended.spent (sym told ∙ ended.left) where
      at : (left : Option (List ℕ)) → IsSpent left → Some list ≡ preceded_by left bytes → list ≡ bytes
      at None _ same = absurd (let never : Some list ≡ None = same in cc)
      at (Some rest) empty same =
          let found : Some list ≡ Some (bytes ++ rest) = same in
          let whole : list ≡ bytes ++ rest = cc in
          whole ∙ ap (λ ys. bytes ++ ys) empty ∙ append-nil bytes

-- a source whose fault count stays 0 never fails
pub never_fails : {old new : SourceState} → new.faults ≡ 0 → ReadFails old new → ⊥
never_fails {old} {new} none failed = let rose = failed.counted in omega arith

-- no write at all
pub takes_nothing : (state : SinkState) → Takes state state []
takes_nothing state = record { written = followed_by_nothing state.written; faults = refl }

-- a write after writes
pub takes_twice :
    {old between new : SinkState} {xs ys : List ℕ} → Takes old between xs → Takes between new ys →
    Takes old new (xs ++ ys)
takes_twice {old} {between} {new} {xs} {ys} first second = record {
  written =
      second.written ∙ ap (λ told. followed_by told ys) first.written
      ∙ followed_twice old.written xs ys;
  faults = second.faults ∙ first.faults;
}

-- a fault after writes of a front of the bytes
pub takes_then_fails :
    {old between new : SinkState} (bytes : List ℕ) (count : ℕ) → count ≤ length bytes →
    Takes old between (take count bytes) → WriteFails between new → TakesFront old new bytes
takes_then_fails {old} {between} {new} bytes count within first last = record {
  count = count;
  within = within;
  written = last.written ∙ first.written;
  counted = subst (λ before. Rose before new.faults) first.faults last.counted;
  not_fallen = subst (λ before. before ≤ new.faults) first.faults last.not_fallen;
}

-- a front of the bytes ys, written after all of the bytes xs
pub takes_then_front :
    {old between new : SinkState} {xs ys : List ℕ} → Takes old between xs →
    TakesFront between new ys → TakesFront old new (xs ++ ys)
takes_then_front {old} {between} {new} {xs} {ys} first last = record {
  count = length xs + last.count;
  within = let long = length-append xs ys in let inside = last.within in omega arith;
  written =
      last.written ∙ ap (λ told. followed_by told (take last.count ys)) first.written
      ∙ followed_twice old.written xs (take last.count ys)
      ∙ ap (followed_by old.written) (sym (take-append-add xs ys last.count));
  counted = subst (λ before. Rose before new.faults) first.faults last.counted;
  not_fallen = subst (λ before. before ≤ new.faults) first.faults last.not_fallen;
}

-- a front of some bytes is a front of those bytes and more
pub front_of_more :
    {old new : SinkState} {xs : List ℕ} (ys : List ℕ) → TakesFront old new xs →
    TakesFront old new (xs ++ ys)
front_of_more {old} {new} {xs} ys front = record {
  count = front.count;
  within = let long = length-append xs ys in let inside = front.within in omega arith;
  written =
      front.written
      ∙ ap (followed_by old.written) (sym (take-append-le front.count xs ys front.within));
  counted = front.counted;
  not_fallen = front.not_fallen;
}

-- one more write of a whole list, from the place `at` on
pub takes_on :
    {old between new : SinkState} (bytes : List ℕ) (at n : ℕ) →
    Takes old between (take at bytes) →
    Takes between new (take n (take (length bytes - at) (drop at bytes))) →
    Takes old new (take (at + n) bytes)
takes_on {old} {between} {new} bytes at n first second =
    let joined = takes_twice first second in
    let same = ap (λ ys. take at bytes ++ take n ys) (take_rest bytes at) ∙ sym (take-add at n bytes) in
    subst (Takes old new) same joined

pub within_on :
    (bytes : List ℕ) (at n : ℕ) → at ≤ length bytes →
    n ≤ length (take (length bytes - at) (drop at bytes)) → at + n ≤ length bytes
within_on bytes at n inside piece =
    let long = ap length (take_rest bytes at) ∙ length-drop at bytes in omega arith

-- a connection's sink and address stay where reads kept what stands beside its source
pub kept_by_reads :
    {old new : BesideSource} {sink_old sink_new : SinkState}
    {address_old address_new : Option Address} →
    old ≡ record { sink = sink_old; address = address_old } →
    new ≡ record { sink = sink_new; address = address_new } → new ≡ old →
    (sink_new ≡ sink_old) × (address_new ≡ address_old)
kept_by_reads before after kept =
    let same = sym after ∙ kept ∙ before in
    (ap (λ beside. beside.sink) same, ap (λ beside. beside.address) same)

-- a connection's source and address stay where writes kept what stands beside its sink
pub kept_by_writes :
    {old new : BesideSink} {source_old source_new : SourceState}
    {address_old address_new : Option Address} →
    old ≡ record { source = source_old; address = address_old } →
    new ≡ record { source = source_new; address = address_new } → new ≡ old →
    (source_new ≡ source_old) × (address_new ≡ address_old)
kept_by_writes before after kept =
    let same = sym after ∙ kept ∙ before in
    (ap (λ beside. beside.source) same, ap (λ beside. beside.address) same)
