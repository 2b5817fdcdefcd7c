-- A refusal in place of a value is a refusal of what would have been made of it.
use Rattle.std.proofs.Common.{Result, ap}
use Rattle.ph_errors.specs.declared.api_error.ApiError.{ApiError}
use Rattle.ph_errors.specs.declared.refusal.Refusal.{Refusal}
use Rattle.ph_errors.specs.declared.refusal.Refusal.TheVariants as refusal
use Rattle.ph_calls.specs.Check.{Refuses}
use Rattle.ph_calls.specs.Parameters.{with_value}

pub refused_there : {X Y : Type 0} (read : Result X ApiError) (make : X → Result Y ApiError) (r : Refusal) → Refuses read r → Refuses (with_value read make) r
refused_there read make (refusal.Api error) h = ap (λ read. with_value read make) h
refused_there read make refusal.NoMemory h = tt
