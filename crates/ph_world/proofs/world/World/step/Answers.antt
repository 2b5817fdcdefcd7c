use Rattle.ph_world.proofs.MoveLemmas.{reached_in_hand, reached_step}
use Rattle.ph_world.proofs.world.World.step.Goals as goal

pub step-requires : goal.step-requires
step-requires c = record { in_hand = reached_in_hand c.self.inside.inner c.self.invariant }

pub invariant_of-self : goal.invariant_of-self
invariant_of-self c =
    reached_step c.step.result c.self.inside.inner c.step.new.self c.args.m.now c.self.invariant c.step.ensures.after c.step.ensures.unchanged

pub returns-clause-reached : goal.returns-clause-reached
returns-clause-reached c =
    reached_step c.step.result c.self.inside.inner c.step.new.self c.args.m.now c.self.invariant c.step.ensures.after c.step.ensures.unchanged
