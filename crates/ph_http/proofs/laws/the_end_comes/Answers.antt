use Rattle.ph_http.proofs.EndLemmas.{last_after}
use Rattle.ph_http.proofs.laws.the_end_comes.Goals as goal

pub returns : goal.returns
returns c = last_after
