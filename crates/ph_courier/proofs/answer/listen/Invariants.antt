use Rattle.std.proofs.Common.{◌≡◌, ◌≤◌, ◌-◌, length, take}
use Rattle.ph_io.specs.Reads.{Moves}
use Rattle.ph_courier.proofs.answer.listen.Given as goal

abbrev pub invariant-reads : goal.invariant-reads
invariant-reads g l = record {
  within : l.at ≤ 16384;
  room : length l.room ≡ 16384;
  moved : Moves (g.S.Source.source l.fn.source) (g.S.Source.source l.source) (take l.at l.room);
  beside : g.S.Source.beside_source l.source ≡ g.S.Source.beside_source l.fn.source;
}

abbrev pub decreases-reads : goal.decreases-reads
decreases-reads g l = 16384 - l.at
