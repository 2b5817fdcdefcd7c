use Rattle.ph_book.specs.History.{rows_of}
use Rattle.ph_book.proofs.MoneyLemmas.{balances_sum}
use Rattle.ph_book.proofs.laws.balances_are_sums.Goals as goal

pub returns : goal.returns
returns c = balances_sum (rows_of c.args._setup.now c.args._history.now)
