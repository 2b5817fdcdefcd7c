use Rattle.std.proofs.Common.{◌≡◌, ◌++◌, map, take, drop}
use Rattle.ph_hooks.specs.State.{renewed}
use Rattle.ph_hooks.proofs.hooks.renew.Given as goal

abbrev pub invariant-deliveries : goal.invariant-deliveries
invariant-deliveries l =
    l.deliveries
    ≡ map (renewed l.number l.delivery) (take l.at l.initial.deliveries) ++ drop l.at l.initial.deliveries
