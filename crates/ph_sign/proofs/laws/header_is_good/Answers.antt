use Rattle.ph_sign.proofs.HeaderLemmas.{header_good}
use Rattle.ph_sign.proofs.laws.header_is_good.Goals as goal

pub returns : goal.returns
returns c = header_good
