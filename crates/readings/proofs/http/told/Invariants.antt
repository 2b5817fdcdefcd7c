use Rattle.std.proofs.Common.{◌≡◌, false}
use Rattle.readings.proofs.http.told.Given as goal

-- the end isn't told before the last piece
abbrev pub invariant-loop-piece : goal.invariant-loop-piece
invariant-loop-piece l = l.talk.ended ≡ false
