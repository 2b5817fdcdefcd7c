-- What two writes, one behind the other, leave.
use Rattle.std.proofs.Common.{ℕ, List, ◌++◌, Result, Ok, Err, OnErr}
use Rattle.std.specs.Bool.{⊤}
use Rattle.ph_io.specs.Told.{SinkState}
use Rattle.ph_io.specs.Writes.{Takes, TakesFront}
use Rattle.ph_io.specs.declared.sink.WriteFailed.{WriteFailed}
use Rattle.ph_io.proofs.DeviceLemmas.{takes_then_front}

-- a whole text, and then another whole or a front of it
pub front_behind : {old between : SinkState} {xs : List ℕ} (new : SinkState) (ys : List ℕ) (result : Result ⊤ WriteFailed) → Takes old between xs → OnErr result (TakesFront between new ys) → OnErr result (TakesFront old new (xs ++ ys))
front_behind new ys (Ok done) takes front = tt
front_behind new ys (Err why) takes front = takes_then_front takes front
