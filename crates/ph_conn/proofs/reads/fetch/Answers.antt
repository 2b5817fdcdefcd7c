use Rattle.std.proofs.Common.{◌<◌, ◌++◌, take, inl, arith}
use Rattle.ph_io.proofs.DeviceLemmas.{moves_twice}
use Rattle.ph_conn.proofs.ReadLemmas.{nearer, still}
use Rattle.ph_http.proofs.EndLemmas.{no_end}
use Rattle.ph_conn.proofs.ItemFacts.{request_after_continue}
use Rattle.ph_conn.proofs.reads.fetch.Goals as goal

pub request-requires : goal.request-requires
request-requires g c =
    let gives = rw c.in-Ok-Continue.field-0-is at c.in-Ok-Continue.ensures.ok in
    record { there = request_after_continue c.loop-raw.talk c.next.new.self gives.0 }

pub unreachable-requires : goal.unreachable-requires
unreachable-requires g c =
    let gives = rw c.in-Ok-End.field-0-is at c.in-Ok-End.ensures.ok in
    (no_end c.loop-raw.talk (still c.loop-raw.invariant.reading) c.loop-raw.talk).0 gives.0

pub unreachable-requires-in-Ok-Cut : goal.unreachable-requires-in-Ok-Cut
unreachable-requires-in-Ok-Cut g c =
    let gives = rw c.in-Ok-Cut.field-0-is at c.in-Ok-Cut.ensures.ok in
    (no_end c.loop-raw.talk (still c.loop-raw.invariant.reading) c.loop-raw.talk).1 gives.0

pub returns-in-Err-feed-clause-fetches : goal.returns-in-Err-feed-clause-fetches
returns-in-Err-feed-clause-fetches g c =
    let reading = c.loop-raw.invariant.reading in
    let some : 0 < c.in-Ok.n = omega arith in
    record {
      bytes = reading.bytes ++ take c.in-Ok.n c.read.new.room;
      read = inl (moves_twice reading.moved (c.in-Ok.ensures.moves some));
      item = tt;
    }

pub loop-raw-smaller : goal.loop-raw-smaller
loop-raw-smaller g c =
    let gives = rw c.in-Ok-More.field-0-is at c.in-Ok-More.ensures.ok in
    rw c.in-Ok-feed.ensures.ok (nearer c.loop-raw.talk c.next.new.self c.read.new.room c.in-Ok.n gives (omega arith) (omega (arith, c.in-Ok.ensures.within)))
