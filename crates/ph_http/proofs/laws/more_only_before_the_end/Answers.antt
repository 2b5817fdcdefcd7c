use Rattle.ph_http.proofs.EndLemmas.{wants_open}
use Rattle.ph_http.proofs.laws.more_only_before_the_end.Goals as goal

pub returns : goal.returns
returns c = wants_open
