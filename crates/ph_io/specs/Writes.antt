-- What a write changes in what a sink tells.
use Rattle.std.specs.Prelude.{◌≡◌, ℕ, ◌≤◌, List, length, take}
use Rattle.ph_base.specs.Counts.{Rose}
use Rattle.ph_io.specs.Told.{SinkState, followed_by}

-- these bytes were written behind the earlier ones, and nothing was counted
pub record Takes (old new : SinkState) (piece : List ℕ) : Type 0 where
  pub written : new.written ≡ followed_by old.written piece
  pub faults : new.faults ≡ old.faults

-- a write failed, wrote nothing, and counted a fault
pub record WriteFails (old new : SinkState) : Type 0 where
  pub written : new.written ≡ old.written
  pub counted : Rose old.faults new.faults
  pub not_fallen : old.faults ≤ new.faults

-- so many of the first of these bytes were written, and the write after them failed
pub record TakesFront (old new : SinkState) (bytes : List ℕ) : Type 0 where
  pub count : ℕ
  pub within : count ≤ length bytes
  pub written : new.written ≡ followed_by old.written (take count bytes)
  pub counted : Rose old.faults new.faults
  pub not_fallen : old.faults ≤ new.faults
