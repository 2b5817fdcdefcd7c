use Rattle.std.proofs.Common.{false, refl}
use Rattle.ph_http.specs.TalkState.{talk_of}
use Rattle.ph_http.proofs.ItemLemmas.{items_more}
use Rattle.ph_http.proofs.laws.items_of_a_front.Goals as goal

pub returns : goal.returns
returns c = λ bytes more ended. items_more (talk_of bytes false) more ended refl
