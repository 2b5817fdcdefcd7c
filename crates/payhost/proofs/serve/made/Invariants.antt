use Rattle.std.proofs.Common.{◌≡◌, None, length}
use Rattle.std.specs.Prelude.{All}
use Rattle.payhost.proofs.serve.made.Given as goal

-- each worker that was made hasn't begun, and there are as many as were counted
abbrev pub invariant-loop : goal.invariant-loop
invariant-loop l = All (λ worker. (worker.pass ≡ None) × (worker.last ≡ None)) l.workers.items × (length l.workers.items ≡ l.counter)
