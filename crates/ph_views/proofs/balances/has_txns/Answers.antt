use Rattle.std.proofs.Common.{sym, ◌∙◌}
use Rattle.ph_views.specs.Balances.{is_txn_of}
use Rattle.ph_views.proofs.BalanceLemmas.{passes_at, passes_over, no_row}
use Rattle.ph_views.proofs.balances.has_txns.Goals as goal

pub returns-then-is_txn_of : goal.returns-then-is_txn_of
returns-then-is_txn_of g c =
    sym (passes_at (is_txn_of c.args.account c.args.currency) c.loop-at.at (g.V.View.state c.args.view.now).rows c.in-Some.row.now
    (sym c.in-Some.ensures) (sym c.is_txn_of.ensures ∙ c.if-is_txn_of.true))

pub returns-in-None : goal.returns-in-None
returns-in-None g c = absurd (no_row c.loop-at.at (g.V.View.state c.args.view.now).rows c.count-at-end.result c.count-at-end.ensures c.loop-at-test.true (sym c.in-None.ensures))

pub loop-at-preserved : goal.loop-at-preserved
loop-at-preserved g c =
    passes_over (is_txn_of c.args.account c.args.currency) c.loop-at.at (g.V.View.state c.args.view.now).rows c.in-Some.row.now
    (sym c.in-Some.ensures) (sym c.is_txn_of.ensures ∙ c.if-is_txn_of.false) c.loop-at.invariant
