use Rattle.std.proofs.Common.{subst, ◌∙◌, arith}
use Rattle.std.specs.Prelude.{IsSomeAnd}
use Rattle.ph_host.specs.Servers.{IsNewPass}
use Rattle.ph_host.proofs.PairLemmas.{changed_all, changed_more}
use Rattle.ph_host.proofs.server.split_each.Goals as goal

pub loop-worker-preserved : goal.loop-worker-preserved
loop-worker-preserved g c =
    let made = c.split_one.ensures in
    record {
      same = made.same ∙ c.loop-worker.invariant.same;
      changed = changed_more _ _ _ _ _ c.worker-item.result c.loop-worker.invariant.changed (omega arith) (
        made.gate,
        made.link,
        made.patience,
        made.last,
        subst (λ f. IsSomeAnd c.split_one.new.worker.pass (IsNewPass c.args.lock.now f.base f.front)) c.loop-worker.invariant.same made.pass,
      );
    }

pub returns-clause-passes : goal.returns-clause-passes
returns-clause-passes g c = changed_all _ _ _ _ (omega (arith, c.loop-worker.invariant.changed.long)) c.loop-worker.invariant.changed
