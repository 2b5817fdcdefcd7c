-- How a call is refused.
use Rattle.std.specs.Prelude.{Result, Ok, Err}
use Rattle.ph_base.specs.declared.memory.NoMemory.{NoMemory}
use Rattle.ph_errors.specs.declared.api_error.ApiError.{ApiError}
use Rattle.ph_errors.specs.declared.refusal.Refusal.{Refusal}
use Rattle.ph_errors.specs.declared.refusal.Refusal.TheVariants as refusal

-- the error, or want of memory where it couldn't be made
abbrev pub refusal_of : Result ApiError NoMemory → Refusal
refusal_of (Ok error) = refusal.Api error
refusal_of (Err _) = refusal.NoMemory
