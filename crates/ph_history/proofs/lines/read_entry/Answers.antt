use Rattle.ph_history.proofs.EntryLemmas.{line_found, line_only}
use Rattle.ph_history.proofs.lines.read_entry.Goals as goal

pub returns-clause-found : goal.returns-clause-found
returns-clause-found c = line_found c.args.line.now c.entry.result c.entry.ensures

pub returns-clause-only : goal.returns-clause-only
returns-clause-only c said fits text = line_only c.args.line.now c.entry.result said c.entry.ensures fits text
