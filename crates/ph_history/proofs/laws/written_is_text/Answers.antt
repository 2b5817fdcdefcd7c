use Rattle.ph_history.proofs.TextLemmas.{written_is_text}
use Rattle.ph_history.proofs.laws.written_is_text.Goals as goal

pub returns : goal.returns
returns c = written_is_text
