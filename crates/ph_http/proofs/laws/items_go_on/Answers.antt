use Rattle.ph_http.proofs.ItemLemmas.{items_lead}
use Rattle.ph_http.proofs.laws.items_go_on.Goals as goal

pub returns : goal.returns
returns c = items_lead
