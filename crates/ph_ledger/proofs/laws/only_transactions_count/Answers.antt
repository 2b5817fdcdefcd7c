use Rattle.ph_ledger.proofs.LedgerLemmas.{transactions_count}
use Rattle.ph_ledger.proofs.laws.only_transactions_count.Goals as goal

pub returns : goal.returns
returns c = transactions_count
