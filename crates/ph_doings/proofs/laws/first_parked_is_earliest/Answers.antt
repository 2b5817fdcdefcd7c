use Rattle.ph_doings.proofs.Queue.{first_parked_is_earliest}
use Rattle.ph_doings.proofs.laws.first_parked_is_earliest.Goals as goal

pub returns : goal.returns
returns c = first_parked_is_earliest
