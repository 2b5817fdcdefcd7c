use Rattle.std.proofs.Common.{◌∙◌, arith}
use Rattle.ph_host.proofs.HostLemmas.{begins_twice, some_and}
use Rattle.ph_host.proofs.PairLemmas.{changed_all, changed_more, changed_weaker}
use Rattle.ph_host.proofs.server.join_each.Goals as goal

pub loop-worker-preserved : goal.loop-worker-preserved
loop-worker-preserved g c =
    let before = c.loop-worker.invariant.same in
    let took = c.join_one.ensures in
    record {
      same = record { lock = took.same.lock ∙ before.lock; base = took.same.base ∙ before.base; caller = took.same.caller ∙ before.caller };
      front = begins_twice _ _ _ took.front c.loop-worker.invariant.front;
      changed = changed_more _ _ _ _ _ c.worker-item.result
          (changed_weaker _ _ _ _ _ (λ x y r. (r.0, r.1, r.2, r.3, r.4, some_and x.pass (λ pass joined. (joined.0, begins_twice _ _ _ took.front joined.1)) r.5)) c.loop-worker.invariant.changed)
          (omega arith) (took.gate, took.link, took.patience, took.end, took.none, took.joined);
    }

pub returns-clause-joined : goal.returns-clause-joined
returns-clause-joined g c = changed_all _ _ _ _ (omega (arith, c.loop-worker.invariant.changed.long)) c.loop-worker.invariant.changed
