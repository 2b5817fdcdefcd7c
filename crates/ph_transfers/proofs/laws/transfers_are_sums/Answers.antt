use Rattle.ph_transfers.proofs.LawLemmas.{transfer_sums}
use Rattle.ph_transfers.proofs.laws.transfers_are_sums.Goals as goal

pub returns : goal.returns
returns c = transfer_sums
