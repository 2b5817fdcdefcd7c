use Rattle.ph_doings.proofs.LawProofs.{approved_once}
use Rattle.ph_doings.proofs.laws.approved_once.Goals as goal

pub returns : goal.returns
returns c = approved_once
