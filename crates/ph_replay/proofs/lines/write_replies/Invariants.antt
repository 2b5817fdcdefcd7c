use Rattle.std.proofs.Common.{take}
use Rattle.ph_io.specs.Writes.{Takes}
use Rattle.ph_replay.specs.Lines.{replies_text}
use Rattle.ph_replay.proofs.lines.write_replies.Given as goal

abbrev pub invariant-loop-told : goal.invariant-loop-told
invariant-loop-told g l = Takes (g.K.Sink.sink l.fn.sink) (g.K.Sink.sink l.sink) (replies_text (take l.told-index l.replies))
