use Rattle.ph_doings.proofs.KeptLists.{attempts_are_unsettled}
use Rattle.ph_doings.proofs.laws.attempts_are_unsettled.Goals as goal

pub returns : goal.returns
returns c = attempts_are_unsettled
