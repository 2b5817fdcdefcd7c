use Rattle.ph_transfers.proofs.LawLemmas.{reversal_sums}
use Rattle.ph_transfers.proofs.laws.reversals_are_sums.Goals as goal

pub returns : goal.returns
returns c = reversal_sums
