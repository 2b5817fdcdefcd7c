use Rattle.ph_world.proofs.LawLemmas.{decisions_stay}
use Rattle.ph_world.proofs.laws.decisions_stay.Goals as goal

pub returns : goal.returns
returns c = decisions_stay
