use Rattle.ph_bank.proofs.DriveLemmas.{counts_sum}
use Rattle.ph_bank.proofs.laws.counts_are_sums.Goals as goal

pub returns : goal.returns
returns c = counts_sum
