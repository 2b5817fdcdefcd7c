use Rattle.std.proofs.Common.{◌≡◌, false, take}
use Rattle.ph_views.specs.Balances.{has_txns}
use Rattle.ph_views.proofs.balances.has_txns.Given as goal

abbrev pub invariant-loop-at : goal.invariant-loop-at
invariant-loop-at g l = has_txns l.account (take l.at (g.V.View.state l.view).rows) l.currency ≡ false
