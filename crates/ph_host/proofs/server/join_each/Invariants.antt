use Rattle.std.proofs.Common.{◌≡◌, None, Some}
use Rattle.std.specs.Prelude.{IsSomeAnd}
use Rattle.ph_lock.specs.Histories.{StartsWith}
use Rattle.ph_lock.specs.Passes.{SamePass}
use Rattle.ph_host.proofs.PairLemmas.{Changed}
use Rattle.ph_host.proofs.server.join_each.Given as goal

abbrev pub invariant-loop-worker : goal.invariant-loop-worker
invariant-loop-worker g l = record {
  same : SamePass l.fn.first l.first;
  front : StartsWith l.first.front l.fn.first.front;
  changed : Changed
      (λ old new. (new.gate ≡ old.gate) × (new.link ≡ old.link) × (new.patience ≡ old.patience) × (new.end ≡ old.end) × (new.pass ≡ None)
      × IsSomeAnd old.pass (λ pass. (new.last ≡ Some pass) × StartsWith l.first.front pass.front))
      l.fn.workers l.workers l.worker-index;
}
