use Rattle.ph_http.proofs.ItemLemmas.{items_none, none_wants}
use Rattle.ph_http.proofs.laws.more_is_no_item.Goals as goal

pub returns : goal.returns
returns c = λ talk. (items_none talk, none_wants talk)
