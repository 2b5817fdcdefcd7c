use Rattle.ph_http.proofs.EndLemmas.{no_end}
use Rattle.ph_http.proofs.laws.no_end_before_it_is_told.Goals as goal

pub returns : goal.returns
returns c = λ talk after before. no_end talk before after
