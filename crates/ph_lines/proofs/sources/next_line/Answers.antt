use Rattle.std.proofs.Common.{◌<◌, ◌++◌, take, arith}
use Rattle.ph_io.proofs.DeviceLemmas.{moves_twice}
use Rattle.ph_lines.proofs.LineLemmas.{smaller}
use Rattle.ph_lines.proofs.sources.next_line.Goals as goal

pub returns-in-Err-extend_from_slice : goal.returns-in-Err-extend_from_slice
returns-in-Err-extend_from_slice g c =
    let reading = c.loop-line.invariant.reading in
    let some : 0 < c.in-Ok.n = omega arith in
    record {
      bytes = reading.bytes ++ take c.in-Ok.n c.read.new.room;
      read = moves_twice reading.moved (c.in-Ok.ensures.moves some);
      item = tt;
    }

pub loop-line-smaller : goal.loop-line-smaller
loop-line-smaller g c =
    let wants = rw c.in-Ok-Wants.field-0-is at c.in-Ok-Wants.ensures in
    smaller c.loop-line.unread.items c.take_line.new.unread.items c.extend_from_slice.new.self.items c.read.new.room c.in-Ok.n wants c.in-Ok-extend_from_slice.ensures.items
    (omega arith) (omega (arith, c.in-Ok.ensures.within))
