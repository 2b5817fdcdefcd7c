use Rattle.ph_doings.proofs.Counted.{runs_are_counted}
use Rattle.ph_doings.proofs.laws.runs_are_counted.Goals as goal

pub returns : goal.returns
returns c = runs_are_counted
