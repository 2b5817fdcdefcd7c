use Rattle.std.proofs.Common.{◌≡◌, take}
use Rattle.ph_replay.proofs.replaying.replay.Given as goal

abbrev pub invariant-loop-i : goal.invariant-loop-i
invariant-loop-i g l = l.replayed.book ≡ record { setup = l.fn.setup; history = take l.i l.entries }
