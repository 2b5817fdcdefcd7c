use Rattle.ph_head.proofs.ReaderLemmas.{head_of-some}
use Rattle.ph_head.proofs.laws.head_is_one.Goals as goal

pub returns : goal.returns
returns c = head_of-some
