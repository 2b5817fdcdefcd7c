use Rattle.ph_world.proofs.LawLemmas.{rulings_are_decisions}
use Rattle.ph_world.proofs.laws.rulings_are_decisions.Goals as goal

pub returns : goal.returns
returns c = rulings_are_decisions
