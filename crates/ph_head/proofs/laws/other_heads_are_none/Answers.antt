use Rattle.ph_head.proofs.ReaderLemmas.{head_of-none}
use Rattle.ph_head.proofs.laws.other_heads_are_none.Goals as goal

pub returns : goal.returns
returns c = head_of-none
