use Rattle.ph_http.proofs.EndLemmas.{wants_few}
use Rattle.ph_http.proofs.laws.few_bytes_wait.Goals as goal

pub returns : goal.returns
returns c = wants_few
