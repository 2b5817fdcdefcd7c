use Rattle.ph_doings.proofs.FoundRuns.{runs_stay}
use Rattle.ph_doings.proofs.laws.runs_stay.Goals as goal

pub returns : goal.returns
returns c = runs_stay
