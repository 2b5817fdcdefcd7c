use Rattle.ph_bank.proofs.SimulationLemmas.{stays}
use Rattle.ph_bank.proofs.laws.same_while_remembered.Goals as goal

pub returns : goal.returns
returns c = stays
