use Rattle.std.proofs.Common.{◌+◌, sym, ap, ◌∙◌, arith}
use Rattle.ph_drill.specs.Counts.{is_counted}
use Rattle.ph_drill.proofs.CountLemmas.{one_more, no_more}
use Rattle.ph_drill.proofs.counts.count.Goals as goal
use Rattle.ph_drill.proofs.counts.count.Goals.{then-is_counted, else-is_counted}

pub loop-at-preserved : goal.loop-at-preserved
loop-at-preserved g c =
    elim c.if-is_counted.branch [
      | then-is_counted w ↦ record {
        few = omega arith;
        counted = w.count-is ∙ ap (λ n. n + 1) c.loop-at.invariant.counted
            ∙ sym (one_more (is_counted c.args.counted) c.loop-at.at (g.V.View.state c.args.view.now).rows c.in-Some.row.now
            (sym c.in-Some.ensures) (sym c.is_counted.ensures ∙ w.if-is_counted.true));
      }
      | else-is_counted w ↦ record {
        few = omega arith;
        counted = w.count-is ∙ c.loop-at.invariant.counted
            ∙ sym (no_more (is_counted c.args.counted) c.loop-at.at (g.V.View.state c.args.view.now).rows c.in-Some.row.now
            (sym c.in-Some.ensures) (sym c.is_counted.ensures ∙ w.if-is_counted.false));
      }
    ]
