use Rattle.ph_history.proofs.TextLemmas.{text_is_written}
use Rattle.ph_history.proofs.laws.text_is_written.Goals as goal

pub returns : goal.returns
returns c = text_is_written
