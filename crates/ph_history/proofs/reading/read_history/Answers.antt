use Rattle.ph_history.proofs.OnlyLemmas.{reads_only}
use Rattle.ph_history.proofs.reading.read_history.Goals as goal

pub returns-clause-only : goal.returns-clause-only
returns-clause-only g c bytes history told text = reads_only c.read.result _ _ bytes history c.read.ensures told text
