use Rattle.ph_doings.proofs.EndLemmas.{ends_are_total}
use Rattle.ph_doings.proofs.ends.ends_are_total.Goals as goal

pub returns : goal.returns
returns c = ends_are_total
