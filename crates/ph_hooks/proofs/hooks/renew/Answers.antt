use Rattle.std.proofs.Common.{arith}
use Rattle.ph_delivery.specs.declared.delivery.DeliveryState.TheVariants.{Due}
use Rattle.ph_hooks.specs.declared.waiting.Waiting.{Waiting}
use Rattle.ph_hooks.specs.State.{renewed}
use Rattle.ph_hooks.proofs.StateLemmas.{renews_one}
use Rattle.ph_hooks.proofs.hooks.renew.Goals as goal

-- what an index behind the list would read
abbrev blank : Waiting
blank = record { number = 0; endpoint = 0; delivery = record { tries = 0; state = Due 0 } }

pub deliveries-preserved : goal.deliveries-preserved
deliveries-preserved c =
    renews_one (renewed c.args.number c.args.delivery) c.deliveries.deliveries c.args.deliveries.now
    c.deliveries.at blank c.renewed.result (omega arith) c.deliveries.invariant c.renewed.ensures
