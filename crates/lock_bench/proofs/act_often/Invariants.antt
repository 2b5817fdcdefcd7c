use Rattle.std.proofs.Common.{◌≡◌}
use Rattle.lock_bench.proofs.act_often.Given as goal

-- the pass is of the lock that it came with
abbrev pub invariant-loop-at : goal.invariant-loop-at
invariant-loop-at g l = l.worker.pass.lock ≡ l.fn.worker.pass.lock
