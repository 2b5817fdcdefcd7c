use Rattle.std.proofs.Common.{◌≡◌, ◌≤◌, ◌-◌, length}
use Rattle.ph_io.specs.Reads.{Moves}
use Rattle.ph_signing.proofs.body.gather.Given as goal

abbrev pub invariant-reads : goal.invariant-reads
invariant-reads g l = record {
  within : length l.body.items ≤ 69632;
  room : length l.room ≡ 4096;
  moved : Moves (g.S.Source.source l.fn.input) (g.S.Source.source l.input) l.body.items;
}

abbrev pub decreases-reads : goal.decreases-reads
decreases-reads g l = 69632 - length l.body.items
