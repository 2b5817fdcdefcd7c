use Rattle.std.proofs.Common.{◌≡◌, ◌-◌, length}
use Rattle.ph_lines.proofs.LineLemmas.{Reading}
use Rattle.ph_lines.proofs.sources.next_line.Given as goal

abbrev pub invariant-loop-line : goal.invariant-loop-line
invariant-loop-line g l = record {
  room : length l.room ≡ 4096;
  reading : Reading l.fn.unread.items l.unread.items (g.S.Source.source l.fn.source) (g.S.Source.source l.source);
}

abbrev pub decreases-loop-line : goal.decreases-loop-line
decreases-loop-line g l = 400000 - length l.unread.items
