use Rattle.std.proofs.Common.{take}
use Rattle.ph_io.specs.Writes.{Takes}
use Rattle.ph_lines.specs.Fields.{spaced}
use Rattle.ph_lines.proofs.writing.write_fields.Given as goal

abbrev pub invariant-loop-field : goal.invariant-loop-field
invariant-loop-field g l = Takes (g.K.Sink.sink l.fn.sink) (g.K.Sink.sink l.sink) (spaced (take l.field-index l.fields))
