-- The first of the further checks whose test holds.
use Rattle.std.proofs.Common.{◌≡◌, Bool, true, false, List, ◌∷◌, Some, sym, ap, ◌∙◌}
use Rattle.std.proofs.lemmas.Bool.{cond-true, cond-false}
use Rattle.ph_errors.specs.declared.api_error.ApiError.{ApiError}
use Rattle.ph_calls.specs.Check.{first_that_holds}

-- its test holds, so that it is this one's error
pub holds_here : (test : Bool) (error made : ApiError) (checks : List (Bool × ApiError)) → test ≡ true → made ≡ error
    → Some made ≡ first_that_holds ((test, error) ∷ checks)
holds_here test error made checks holds is = ap Some is ∙ sym (cond-true test (Some error) (first_that_holds checks) holds)

-- its test fails, so that it is one of the others
pub holds_later : (test : Bool) (error made : ApiError) (checks : List (Bool × ApiError)) → test ≡ false → Some made ≡ first_that_holds checks
    → Some made ≡ first_that_holds ((test, error) ∷ checks)
holds_later test error made checks fails is = is ∙ sym (cond-false test (Some error) (first_that_holds checks) fails)
