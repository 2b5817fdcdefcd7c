use Rattle.ph_history.proofs.WrittenLemmas.{written_is}
use Rattle.ph_history.proofs.writing.write_history.Goals as goal

pub returns-clause-all : goal.returns-clause-all
returns-clause-all g c = rw (written_is c.args.setup.now c.args.entries.now) at c.write_parts.ensures.all

pub returns-clause-front : goal.returns-clause-front
returns-clause-front g c = rw (written_is c.args.setup.now c.args.entries.now) at c.write_parts.ensures.front
