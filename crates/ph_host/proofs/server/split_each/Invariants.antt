use Rattle.std.proofs.Common.{◌≡◌}
use Rattle.std.specs.Prelude.{IsSomeAnd}
use Rattle.ph_host.specs.Servers.{IsNewPass}
use Rattle.ph_host.proofs.PairLemmas.{Changed}
use Rattle.ph_host.proofs.server.split_each.Given as goal

abbrev pub invariant-loop-worker : goal.invariant-loop-worker
invariant-loop-worker g l = record {
  same : l.first ≡ l.fn.first;
  changed : Changed
      (λ old new. (new.gate ≡ old.gate) × (new.link ≡ old.link) × (new.patience ≡ old.patience) × (new.last ≡ old.last)
      × IsSomeAnd new.pass (IsNewPass l.lock l.fn.first.base l.fn.first.front))
      l.fn.workers l.workers l.worker-index;
}
