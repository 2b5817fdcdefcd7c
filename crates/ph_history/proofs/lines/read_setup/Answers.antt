use Rattle.ph_history.proofs.EntryLemmas.{setup_found, setup_only}
use Rattle.ph_history.proofs.lines.read_setup.Goals as goal

pub returns-clause-found : goal.returns-clause-found
returns-clause-found c = setup_found c.args.line.now c.setup.result c.setup.ensures

pub returns-clause-only : goal.returns-clause-only
returns-clause-only c said fits text = setup_only c.args.line.now c.setup.result said c.setup.ensures fits text
