use Rattle.ph_doings.proofs.LawProofs.{live_is_run}
use Rattle.ph_doings.proofs.laws.live_is_run.Goals as goal

pub returns : goal.returns
returns c = live_is_run
