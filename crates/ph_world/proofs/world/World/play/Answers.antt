use Rattle.ph_world.proofs.MoveLemmas.{none_more, plays_on, stops_at}
use Rattle.ph_world.proofs.world.World.play.Goals as goal

pub returns-in-Err-clause-stopped : goal.returns-in-Err-clause-stopped
returns-in-Err-clause-stopped c =
    stops_at c.args.self.now c.args.moves.now c.loop-m.m-index c.m-item.result c.loop-m.self c.step.new.self c.in-Err.why
    c.loop-m-test.true c.m-item.is c.loop-m.invariant.led c.loop-m.invariant.room c.in-Err.ensures.unchanged c.in-Err.ensures.full

pub loop-m-preserved : goal.loop-m-preserved
loop-m-preserved c = record {
  led = plays_on c.args.self.now c.args.moves.now c.loop-m.m-index c.m-item.result c.loop-m.self c.step.new.self
      c.loop-m-test.true c.m-item.is c.loop-m.invariant.led c.in-Ok.ensures.after;
  room = none_more c.args.self.now c.args.moves.now c.loop-m.m-index c.m-item.result c.loop-m.self
      c.loop-m-test.true c.m-item.is c.loop-m.invariant.led c.loop-m.invariant.room c.in-Ok.ensures.room;
}
