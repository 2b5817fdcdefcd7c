use Rattle.std.proofs.Common.{arith}
use Rattle.ph_views.proofs.SearchLemmas.{found_before, goes_on_before}
use Rattle.ph_views.proofs.subjects.version_before.Goals as goal

pub returns-then-row-object : goal.returns-then-row-object
returns-then-row-object g c =
    found_before c.args.object c.loop-at.at (g.V.View.state c.args.view.now).rows c.in-Some.row.now _ c.loop-at-test.true
    c.loop-at.invariant.same c.in-Some.ensures c.if-row-object.true

pub loop-at-preserved : goal.loop-at-preserved
loop-at-preserved g c = record {
  within = omega (arith, c.loop-at.invariant.within);
  same =
      goes_on_before c.args.object c.loop-at.at (g.V.View.state c.args.view.now).rows c.in-Some.row.now _ c.loop-at-test.true
      c.loop-at.invariant.same c.in-Some.ensures c.if-row-object.false;
}
