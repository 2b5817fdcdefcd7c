use Rattle.std.proofs.Common.{◌≡◌, take}
use Rattle.std.specs.List.{filter}
use Rattle.ph_money.specs.Currencies.{currencies}
use Rattle.ph_views.specs.Balances.{has_txns}
use Rattle.ph_views.proofs.balances.currencies.Given as goal

abbrev pub invariant-loop-currency : goal.invariant-loop-currency
invariant-loop-currency g l = l.list.items ≡ filter (has_txns l.account (g.V.View.state l.view).rows) (take l.currency-index currencies)
