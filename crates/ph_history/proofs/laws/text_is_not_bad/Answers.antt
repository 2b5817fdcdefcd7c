use Rattle.ph_history.proofs.OnlyLemmas.{text_not_bad}
use Rattle.ph_history.proofs.laws.text_is_not_bad.Goals as goal

pub returns : goal.returns
returns c = text_not_bad
