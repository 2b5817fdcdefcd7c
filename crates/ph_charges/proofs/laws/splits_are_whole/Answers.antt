use Rattle.ph_charges.proofs.LawLemmas.{splits_whole}
use Rattle.ph_charges.proofs.laws.splits_are_whole.Goals as goal

pub returns : goal.returns
returns c = splits_whole
