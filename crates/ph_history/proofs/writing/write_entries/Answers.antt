use Rattle.ph_history.specs.Text.{entry_fields}
use Rattle.ph_lines.specs.Fields.{line_text}
use Rattle.ph_lines.proofs.WriteLemmas.{at_err, known_front}
use Rattle.ph_history.proofs.writing.write_entries.Goals as goal

pub returns-in_err-write_entry-clause-front : goal.returns-in_err-write_entry-clause-front
returns-in_err-write_entry-clause-front g c =
    at_err _ (known_front (λ entry. line_text (entry_fields entry)) c.args.entries.now c.loop-entry.entry-index c.entry-item.result c.entry-item.is c.loop-entry-test.true c.loop-entry.invariant c.in_err-write_entry.ensures.front)
