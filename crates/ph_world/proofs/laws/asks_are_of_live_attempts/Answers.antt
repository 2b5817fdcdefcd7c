use Rattle.ph_world.proofs.LawLemmas.{asks_are_of_live_attempts}
use Rattle.ph_world.proofs.laws.asks_are_of_live_attempts.Goals as goal

pub returns : goal.returns
returns c = asks_are_of_live_attempts
