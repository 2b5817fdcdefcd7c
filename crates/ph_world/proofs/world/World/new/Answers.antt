use Rattle.std.proofs.Common.{sym, subst}
use Rattle.ph_world.specs.Laws.{IsReached}
use Rattle.ph_world.proofs.MoveLemmas.{reached_new}
use Rattle.ph_world.proofs.world.World.new.Goals as goal

pub invariant_of-result : goal.invariant_of-result
invariant_of-result c =
    subst IsReached (sym c.in_ok-new.ensures) (reached_new c.args.setup (record { opened = c.requires.opened; few = c.few_entries.ensures }))
