use Rattle.std.proofs.Common.{◌≡◌}
use Rattle.std.specs.Prelude.{All}
use Rattle.lock_bench.proofs.workers_of.Given as goal

-- the first pass stays, and the workers' passes are of its lock
abbrev pub invariant-loop : goal.invariant-loop
invariant-loop g l = (l.first ≡ l.fn.first) × All (λ w. w.pass.lock ≡ l.fn.first.lock) l.all.items
