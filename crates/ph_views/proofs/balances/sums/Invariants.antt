use Rattle.std.proofs.Common.{◌≡◌, take}
use Rattle.ph_views.specs.Balances.{sum_docs}
use Rattle.ph_views.proofs.balances.sums.Given as goal

abbrev pub invariant-loop-currency : goal.invariant-loop-currency
invariant-loop-currency g l =
    l.docs.items ≡ sum_docs l.available l.account (g.V.View.state l.view).time (g.V.View.state l.view).rows (take l.currency-index l.currencies)
