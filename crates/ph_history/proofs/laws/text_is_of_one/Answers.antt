use Rattle.ph_history.proofs.OnlyLemmas.{text_of_one}
use Rattle.ph_history.proofs.laws.text_is_of_one.Goals as goal

pub returns : goal.returns
returns c = text_of_one
