use Rattle.ph_history.proofs.FaultLemmas.{cut_not_bad}
use Rattle.ph_history.proofs.laws.cut_is_not_bad.Goals as goal

pub returns : goal.returns
returns c = cut_not_bad
