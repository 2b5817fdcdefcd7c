use Rattle.ph_doings.proofs.EndLemmas.{live_runs_end}
use Rattle.ph_doings.proofs.ends.live_runs_end.Goals as goal

pub returns : goal.returns
returns c = live_runs_end
