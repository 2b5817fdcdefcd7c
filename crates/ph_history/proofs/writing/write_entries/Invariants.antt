use Rattle.std.proofs.Common.{take}
use Rattle.ph_io.specs.Writes.{Takes}
use Rattle.ph_history.specs.Written.{entries_text}
use Rattle.ph_history.proofs.writing.write_entries.Given as goal

abbrev pub invariant-loop-entry : goal.invariant-loop-entry
invariant-loop-entry g l = Takes (g.K.Sink.sink l.fn.sink) (g.K.Sink.sink l.sink) (entries_text (take l.entry-index l.entries))
