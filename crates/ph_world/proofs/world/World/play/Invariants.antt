use Rattle.std.proofs.Common.{◌≡◌, take}
use Rattle.ph_world.specs.Moves.{after_moves}
use Rattle.ph_world.specs.Playing.{NoneRefused}
use Rattle.ph_world.proofs.world.World.play.Given as goal

abbrev pub invariant-loop-m : goal.invariant-loop-m
invariant-loop-m l = record {
  led : l.self ≡ after_moves l.fn.self (take l.m-index l.moves);
  room : NoneRefused l.fn.self (take l.m-index l.moves);
}
