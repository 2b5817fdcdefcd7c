use Rattle.ph_doings.proofs.FoundRuns.{runs_are_found}
use Rattle.ph_doings.proofs.laws.runs_are_found.Goals as goal

pub returns : goal.returns
returns c = runs_are_found
