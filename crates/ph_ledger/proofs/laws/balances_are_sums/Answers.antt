use Rattle.ph_ledger.proofs.LedgerLemmas.{balances_sum}
use Rattle.ph_ledger.proofs.laws.balances_are_sums.Goals as goal

pub returns : goal.returns
returns c = balances_sum
