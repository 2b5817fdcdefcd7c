use Rattle.std.proofs.Common.{◌∷◌}
use Rattle.ph_lines.specs.Fields.{field_text}
use Rattle.ph_lines.proofs.WriteLemmas.{at_err, item_front}
use Rattle.ph_lines.proofs.writing.write_fields.Goals as goal

pub returns-in_err-write_spaced-clause-front : goal.returns-in_err-write_spaced-clause-front
returns-in_err-write_spaced-clause-front g c =
    at_err _ (item_front (λ field. 32 ∷ field_text field) c.args.fields.now c.loop-field.field-index _ c.loop-field-test.true c.loop-field.invariant c.in_err-write_spaced.ensures.front)
