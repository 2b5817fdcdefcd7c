use Rattle.std.proofs.Common.{◌≡◌, ℕ, Option, None, Result, Ok, Err, IfOk, sym, ap, subst, codes}
use Rattle.ph_base.specs.declared.memory.NoMemory.{NoMemory}
use Rattle.ph_calls.specs.Check.{Refuses}
use Rattle.ph_errors.specs.Refusal.{refusal_of}
use Rattle.ph_errors.specs.Table.{error_of, NoSuchObject}
use Rattle.ph_errors.specs.declared.api_error.ApiError.{ApiError}
use Rattle.ph_errors.specs.declared.refusal.Refusal.{Refusal}
use Rattle.ph_intents.specs.Destinations.{to_found}
use Rattle.ph_intents.proofs.destinations.to_found.Goals as goal

-- the refusal with the error that was to be made is that of a destination that isn't there
refused : (found : Option ℕ) (made : Result ApiError NoMemory) (r : Refusal) → found ≡ None → r ≡ refusal_of made
    → IfOk made (λ error. error ≡ error_of (NoSuchObject (codes "transfer_data[destination]"))) → Refuses (to_found found) r
refused found (Ok error) r none is e =
    subst (λ (r : Refusal). Refuses (to_found found) r) (sym is)
    (subst (λ (error : ApiError). to_found found ≡ Err error) (sym e) (ap to_found none))
refused found (Err memory) r none is e = subst (λ (r : Refusal). Refuses (to_found found) r) (sym is) tt

pub returns-in-None-clause-refusal : goal.returns-in-None-clause-refusal
returns-in-None-clause-refusal c =
    refused c.args.found c.no_such_object.result c.of.result c.in-None.is c.of.ensures c.no_such_object.ensures
