-- Refusals of a request, and the further checks of a call once its parameters are read.
use Rattle.std.specs.Prelude.{ℕ, ◌≡◌, ◌==◌, ◌⊎◌, Bool, false, if◌then◌else◌, List, [], ◌∷◌, Option, Some, None, Result, Err, codes}
use Rattle.ph_errors.specs.declared.api_error.ApiError.{ApiError}
use Rattle.ph_errors.specs.declared.refusal.Refusal.{Refusal}
use Rattle.ph_errors.specs.declared.refusal.Refusal.TheVariants as refusal
use Rattle.ph_errors.specs.Table.{InvalidValue, error_of}

-- the error of the first of these further checks whose test holds
abbrev pub first_that_holds : List (Bool × ApiError) → Option ApiError
first_that_holds [] = None
first_that_holds (check ∷ checks) = if check.0 then Some check.1 else first_that_holds checks

-- an amount is named, and it is 0
abbrev pub is_zero : Option ℕ → Bool
is_zero None = false
is_zero (Some amount) = amount == 0

-- the further check of a call whose one amount may not be 0
abbrev pub zero_error : Option ℕ → Option ApiError
zero_error amount = first_that_holds ((is_zero amount, error_of (InvalidValue (codes "amount"))) ∷ [])

-- the error, or else what is made
abbrev pub unless_error : {X : Type 0} → Option ApiError → Result X ApiError → Result X ApiError
unless_error None made = made
unless_error (Some error) made = Err error

-- the refusal is this outcome's error, or want of memory
abbrev pub Refuses : {X : Type 0} → Result X ApiError → Refusal → Type 0
Refuses outcome (refusal.Api error) = outcome ≡ Err error
Refuses outcome refusal.NoMemory = Unit {0}

-- the status of the error is one of those by which a request is refused as no call: 400, 404, or 503 for want of memory
abbrev pub IsNoCall : ApiError → Type 0
IsNoCall error = (error.status ≡ 400) ⊎ ((error.status ≡ 404) ⊎ (error.status ≡ 503))
