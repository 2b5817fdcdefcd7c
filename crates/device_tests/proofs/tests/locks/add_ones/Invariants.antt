use Rattle.std.proofs.Common.{◌≡◌}
use Rattle.device_tests.proofs.tests.locks.add_ones.Given as goal

-- the pass is of the lock that it came with
abbrev pub invariant-loop : goal.invariant-loop
invariant-loop g l = l.pass.lock ≡ l.fn.pass.lock
