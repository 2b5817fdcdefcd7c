use Rattle.ph_bank.proofs.SimulationLemmas.{answered_alike}
use Rattle.ph_bank.proofs.laws.answered_as_at_first.Goals as goal

pub returns : goal.returns
returns c = answered_alike
