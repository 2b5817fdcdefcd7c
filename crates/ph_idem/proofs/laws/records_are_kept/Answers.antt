use Rattle.ph_idem.proofs.KeptLemmas.{records_are_kept}
use Rattle.ph_idem.proofs.laws.records_are_kept.Goals as goal

pub returns : goal.returns
returns c = records_are_kept
