use Rattle.ph_world.proofs.LawLemmas.{legal}
use Rattle.ph_world.proofs.laws.legal.Goals as goal

pub returns : goal.returns
returns c = legal
