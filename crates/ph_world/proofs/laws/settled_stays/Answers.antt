use Rattle.ph_world.proofs.SettledLemmas.{settled_stays}
use Rattle.ph_world.proofs.laws.settled_stays.Goals as goal

pub returns : goal.returns
returns c = settled_stays
