-- What a read changes in what a source tells.
use Rattle.std.specs.Prelude.{◌≡◌, ℕ, ◌≤◌, List}
use Rattle.ph_base.specs.Counts.{Rose}
use Rattle.ph_io.specs.Told.{SourceState, followed_by, preceded_by, IsSpent}

-- a read moved these bytes from the front of what was left to the end of what was taken, and
-- counted nothing
pub record Moves (old new : SourceState) (piece : List ℕ) : Type 0 where
  pub left : old.left ≡ preceded_by new.left piece
  pub taken : new.taken ≡ followed_by old.taken piece
  pub ends : new.ends ≡ old.ends
  pub faults : new.faults ≡ old.faults

-- a read found nothing left, moved nothing, and counted an end
pub record Ends (old new : SourceState) : Type 0 where
  pub spent : IsSpent old.left
  pub left : new.left ≡ old.left
  pub taken : new.taken ≡ old.taken
  pub counted : Rose old.ends new.ends
  pub not_fallen : old.ends ≤ new.ends
  pub faults : new.faults ≡ old.faults

-- a read failed, moved nothing, and counted a fault
pub record ReadFails (old new : SourceState) : Type 0 where
  pub left : new.left ≡ old.left
  pub taken : new.taken ≡ old.taken
  pub ends : new.ends ≡ old.ends
  pub counted : Rose old.faults new.faults
  pub not_fallen : old.faults ≤ new.faults

-- reads moved these bytes, and the read after them found the end
pub record EndsAfter (old new : SourceState) (bytes : List ℕ) : Type 0 where
  pub left : old.left ≡ preceded_by new.left bytes
  pub spent : IsSpent new.left
  pub taken : new.taken ≡ followed_by old.taken bytes
  pub counted : Rose old.ends new.ends
  pub not_fallen : old.ends ≤ new.ends
  pub faults : new.faults ≡ old.faults

-- reads moved these bytes, and the read after them failed
pub record FailsAfter (old new : SourceState) (bytes : List ℕ) : Type 0 where
  pub left : old.left ≡ preceded_by new.left bytes
  pub taken : new.taken ≡ followed_by old.taken bytes
  pub ends : new.ends ≡ old.ends
  pub counted : Rose old.faults new.faults
  pub not_fallen : old.faults ≤ new.faults
