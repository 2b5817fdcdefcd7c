-- What reading a body to its end comes to.
use Rattle.std.specs.Prelude.{ℕ, ◌<◌, ◌≤◌, List, length, Result, Ok, Err}
use Rattle.ph_io.specs.Told.{SourceState}
use Rattle.ph_io.specs.Reads.{Moves, EndsAfter, FailsAfter}
use Rattle.ph_signing.specs.declared.body.BodyFault.{BodyFault}
use Rattle.ph_signing.specs.declared.body.BodyFault.TheVariants.{TooLong, ReadFault, NoMemory}

-- how many bytes a body has at most
abbrev pub body_limit : ℕ
body_limit = 65536

-- all that the input gave up to its end, and it isn't too long
pub record IsWhole (old new : SourceState) (body : List ℕ) : Type 0 where
  pub ended : EndsAfter old new body
  pub fits : length body ≤ body_limit

-- more than a body may have was read
pub record IsTooLong (old new : SourceState) : Type 0 where
  pub bytes : List ℕ
  pub moved : Moves old new bytes
  pub over : body_limit < length bytes

-- a read failed
pub record IsUnread (old new : SourceState) : Type 0 where
  pub bytes : List ℕ
  pub failed : FailsAfter old new bytes

-- the body, or why there is none
abbrev pub Gathers : SourceState → SourceState → Result (List ℕ) BodyFault → Type 0
Gathers old new (Ok body) = IsWhole old new body
Gathers old new (Err TooLong) = IsTooLong old new
Gathers old new (Err ReadFault) = IsUnread old new
Gathers old new (Err NoMemory) = Unit {0}
