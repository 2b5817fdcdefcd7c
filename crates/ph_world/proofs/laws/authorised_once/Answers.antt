use Rattle.ph_world.proofs.LawLemmas.{authorised_once}
use Rattle.ph_world.proofs.laws.authorised_once.Goals as goal

pub returns : goal.returns
returns c = authorised_once
