use Rattle.std.proofs.Common.{◌≡◌, ◌-◌, ◌<◌, length, take, take_all, rules, ◌∙◌, arith}
use Rattle.std.proofs.lemmas.List.{length-take-le}
use borrow.Rule.Slice.PartMut.{post_of, same_len_mid}
use Rattle.ph_courier.proofs.AnswerLemmas.{cut_off, heard_all, heard_end, heard_head, read_on}
use Rattle.ph_courier.proofs.answer.listen.Goals as goal

pub returns-in-Some-clause-heard : goal.returns-in-Some-clause-heard
returns-in-Some-clause-heard g c =
    let reads = c.reads.invariant in
    let long = length-take-le c.reads.at c.reads.room (omega arith) in
    rw c.outcome.ensures (heard_head reads.moved (omega arith) c.in-Some.ensures.some)

pub returns-in-Ok-eq0-clause-heard : goal.returns-in-Ok-eq0-clause-heard
returns-in-Ok-eq0-clause-heard g c =
    let reads = c.reads.invariant in
    let long = length-take-le c.reads.at c.reads.room (omega arith) in
    heard_end reads.moved (c.in-Ok-eq0.ensures.ends c.in-Ok-eq0.field-0-test) (omega arith) c.in_default.ensures.none

pub returns-in-Err-clause-heard : goal.returns-in-Err-clause-heard
returns-in-Err-clause-heard g c = cut_off c.reads.invariant.moved c.in-Err.ensures.fails

pub returns-in-Some-status-clause-heard : goal.returns-in-Some-status-clause-heard
returns-in-Some-status-clause-heard g c =
    let reads = c.reads.invariant in
    let full : c.reads.at ≡ 16384 = omega arith in
    let whole = take_all c.reads.at c.reads.room (omega arith) in
    rw c.outcome-in-Some-status.ensures
    (heard_head (rw whole at reads.moved) (omega arith) c.in-Some-status.ensures.some)

pub returns-in-None-clause-heard : goal.returns-in-None-clause-heard
returns-in-None-clause-heard g c =
    let reads = c.reads.invariant in
    let whole = take_all c.reads.at c.reads.room (omega arith) in
    heard_all (rw whole at reads.moved) reads.room c.in-None.ensures.none

pub reads-preserved : goal.reads-preserved
reads-preserved g c =
    let reads = c.reads.invariant in
    let some : 0 < c.in-Ok.n = omega arith in
    record {
      within = omega (arith, c.in-Ok.ensures.within);
      room =
          same_len_mid c.reads.at (16384 - c.reads.at) c.reads.room c.read.new.room c.read.auto.room
          ∙ reads.room;
      moved =
          read_on c.reads.room c.read.new.room (post_of c.reads.at (16384 - c.reads.at) c.reads.room)
          c.reads.at c.in-Ok.n (omega arith) (omega (arith, c.in-Ok.ensures.within)) reads.moved (c.in-Ok.ensures.moves some);
      beside = search rules;
    }
