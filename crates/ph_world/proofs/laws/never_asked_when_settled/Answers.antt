use Rattle.ph_world.proofs.SettledLemmas.{never_asked_when_settled}
use Rattle.ph_world.proofs.laws.never_asked_when_settled.Goals as goal

pub returns : goal.returns
returns c = never_asked_when_settled
