use Rattle.ph_idem.proofs.FoundLemmas.{records_are_found}
use Rattle.ph_idem.proofs.laws.records_are_found.Goals as goal

pub returns : goal.returns
returns c = records_are_found
