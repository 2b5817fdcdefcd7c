use Rattle.ph_doings.proofs.LawProofs.{processing_has_one_attempt}
use Rattle.ph_doings.proofs.laws.processing_has_one_attempt.Goals as goal

pub returns : goal.returns
returns c = processing_has_one_attempt
