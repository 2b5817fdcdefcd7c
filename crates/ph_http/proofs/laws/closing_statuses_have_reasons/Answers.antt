use Rattle.ph_http.proofs.StatusLemmas.{close_status}
use Rattle.ph_http.proofs.laws.closing_statuses_have_reasons.Goals as goal

pub returns : goal.returns
returns c = close_status
