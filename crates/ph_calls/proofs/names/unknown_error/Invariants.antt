use Rattle.std.proofs.Common.{◌≡◌, map, drop}
use Rattle.ph_calls.specs.Parameters.{unknown_error}
use Rattle.ph_calls.proofs.names.unknown_error.Given as goal

abbrev pub invariant-loop-leaf : goal.invariant-loop-leaf
invariant-loop-leaf l = unknown_error (map (λ n. n.now) l.names) (drop l.leaf-index l.leaves) ≡ unknown_error (map (λ n. n.now) l.names) l.leaves
