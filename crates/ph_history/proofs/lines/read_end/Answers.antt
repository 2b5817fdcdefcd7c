use Rattle.ph_history.proofs.EntryLemmas.{end_found, end_only}
use Rattle.ph_history.proofs.lines.read_end.Goals as goal

pub returns-clause-found : goal.returns-clause-found
returns-clause-found c = end_found c.args.line.now c.end.result c.end.ensures

pub returns-clause-only : goal.returns-clause-only
returns-clause-only c said fits text = end_only c.args.line.now c.end.result said c.end.ensures fits text
