-- What listening to an answer comes to.
use Rattle.std.specs.Prelude.{◌≡◌, ℕ, ◌⊎◌, List}
use Rattle.ph_io.specs.Told.{SourceState}
use Rattle.ph_io.specs.Reads.{FailsAfter}
use Rattle.ph_delivery.specs.declared.outcome.Outcome.{Outcome}
use Rattle.ph_delivery.specs.declared.outcome.Outcome.TheVariants as outcome
use Rattle.ph_courier.specs.Answers.{Hears}

-- the answer was heard
pub record IsHeard (old new : SourceState) (result : Outcome) : Type 0 where
  pub bytes : List ℕ
  pub heard : Hears old new bytes result

-- a read failed
pub record IsCutOff (old new : SourceState) (result : Outcome) : Type 0 where
  pub bytes : List ℕ
  pub broke : FailsAfter old new bytes
  pub outcome : result ≡ outcome.Unreached

-- it was heard, or a read failed
abbrev pub Listens : SourceState → SourceState → Outcome → Type 0
Listens old new result = IsHeard old new result ⊎ IsCutOff old new result
