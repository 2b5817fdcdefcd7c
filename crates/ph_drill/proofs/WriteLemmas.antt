-- What writes behind one another leave.
use Rattle.std.proofs.Common.{◌≡◌, ℕ, List, ◌++◌, Result, Ok, Err, OnOk, OnErr, sym, subst}
use Rattle.std.specs.Bool.{⊤}
use Rattle.ph_io.specs.Told.{SinkState}
use Rattle.ph_io.specs.Writes.{Takes, TakesFront}
use Rattle.ph_io.specs.declared.sink.WriteFailed.{WriteFailed}
use Rattle.ph_io.proofs.DeviceLemmas.{takes_twice, takes_then_front}
use Rattle.ph_drill.specs.Lines.{Writes}

-- a text that was written whole, and another behind it
pub writes_then : {old between : SinkState} {xs : List ℕ} (new : SinkState) (ys : List ℕ) (result : Result ⊤ WriteFailed) → Takes old between xs
    → Writes between new ys result → Writes old new (xs ++ ys) result
writes_then new ys (Ok done) first second = takes_twice first second
writes_then new ys (Err why) first second = takes_then_front first second

-- a write that failed
pub writes_err : {old new : SinkState} {text : List ℕ} (result : Result ⊤ WriteFailed) (why : WriteFailed) → result ≡ Err why
    → TakesFront old new text → Writes old new text result
writes_err {old} {new} {text} result why failed front = subst (Writes old new text) (sym failed) front

-- what a write of all of it says
pub writes_all : (old new : SinkState) (text : List ℕ) (result : Result ⊤ WriteFailed) → OnOk result (Takes old new text)
    → OnErr result (TakesFront old new text) → Writes old new text result
writes_all old new text (Ok done) all front = all
writes_all old new text (Err why) all front = front
