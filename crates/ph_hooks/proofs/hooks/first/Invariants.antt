use Rattle.std.proofs.Common.{◌≡◌, ◌≤◌, length, drop}
use Rattle.ph_hooks.specs.Due.{first_of, turns_of}
use Rattle.ph_hooks.proofs.hooks.first.Given as goal

abbrev pub invariant-turns : goal.invariant-turns
invariant-turns l =
    (l.at ≤ length l.deliveries)
    × (l.first ≡ first_of (turns_of l.now l.deleted (drop l.at l.deliveries)))

abbrev pub decreases-turns : goal.decreases-turns
decreases-turns l = l.at
