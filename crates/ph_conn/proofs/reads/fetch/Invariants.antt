use Rattle.std.proofs.Common.{◌≡◌, ◌-◌, length}
use Rattle.ph_conn.proofs.ReadLemmas.{Reading}
use Rattle.ph_conn.proofs.reads.fetch.Given as goal

abbrev pub invariant-loop-raw : goal.invariant-loop-raw
invariant-loop-raw g l = record {
  room : length l.room ≡ 4096;
  beside : g.S.Source.beside_source l.input ≡ g.S.Source.beside_source l.fn.input;
  reading : Reading l.fn.talk l.talk (g.S.Source.source l.fn.input) (g.S.Source.source l.input);
}

abbrev pub decreases-loop-raw : goal.decreases-loop-raw
decreases-loop-raw g l = 100000 - length l.talk.unread
