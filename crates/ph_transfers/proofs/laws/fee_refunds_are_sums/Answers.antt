use Rattle.ph_transfers.proofs.LawLemmas.{fee_refund_sums}
use Rattle.ph_transfers.proofs.laws.fee_refunds_are_sums.Goals as goal

pub returns : goal.returns
returns c = fee_refund_sums
