use Rattle.ph_doings.proofs.Coming.{live_runs_may_end}
use Rattle.ph_doings.proofs.rows.live_runs_may_end.Goals as goal

pub returns : goal.returns
returns c = live_runs_may_end
