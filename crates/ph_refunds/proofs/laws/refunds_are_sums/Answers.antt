use Rattle.ph_refunds.proofs.LawLemmas.{refund_sums}
use Rattle.ph_refunds.proofs.laws.refunds_are_sums.Goals as goal

pub returns : goal.returns
returns c = refund_sums
