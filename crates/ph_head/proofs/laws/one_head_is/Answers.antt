use Rattle.ph_head.proofs.ReaderLemmas.{head_of-one}
use Rattle.ph_head.proofs.laws.one_head_is.Goals as goal

pub returns : goal.returns
returns c = head_of-one
