-- The refusal of a parameter that asks for a part of what a charge doesn't have.
use Rattle.std.specs.Prelude.{codes}
use Rattle.std.proofs.Common.{◌≡◌, ℕ, List, Option, None, Result, Ok, Err, IfOk, ap, subst, sym, ◌∙◌}
use Rattle.ph_base.specs.declared.memory.NoMemory.{NoMemory}
use Rattle.ph_calls.specs.Check.{Refuses}
use Rattle.ph_errors.specs.Refusal.{refusal_of}
use Rattle.ph_errors.specs.Table.{error_of, InvalidValue}
use Rattle.ph_errors.specs.declared.api_error.ApiError.{ApiError}
use Rattle.ph_errors.specs.declared.refusal.Refusal.{Refusal}
use Rattle.ph_items.specs.declared.charges.Charge.{Charge}
use Rattle.ph_refunds.specs.Parts.{FeeVersion, TransferVersion, fee_due, transfer_due}

-- the refusal with the error that was to be made is that of what is refused so
refused : {P : Type 0} (due : Result (Option P) ApiError) (param : List ℕ) (made : Result ApiError NoMemory) (r : Refusal)
    → due ≡ Err (error_of (InvalidValue param)) → r ≡ refusal_of made
    → IfOk made (λ error. error ≡ error_of (InvalidValue param)) → Refuses due r
refused due param (Ok error) r none is e =
    subst (λ (r : Refusal). Refuses due r) (sym is) (none ∙ ap (λ (error : ApiError). Err error) (sym e))
refused due param (Err memory) r none is e = subst (λ (r : Refusal). Refuses due r) (sym is) tt

-- so it is with that of a transfer, and of an application fee, where there is none
pub transfer_refused : (charge : Charge) (amount : ℕ) (version : Option TransferVersion) (made : Result ApiError NoMemory) (r : Refusal)
    → version ≡ None → r ≡ refusal_of made → IfOk made (λ error. error ≡ error_of (InvalidValue (codes "reverse_transfer")))
    → Refuses (transfer_due charge amount version) r
transfer_refused charge amount version made r none is e =
    refused (transfer_due charge amount version) (codes "reverse_transfer") made r (ap (transfer_due charge amount) none) is e

pub fee_refused : (charge : Charge) (amount : ℕ) (version : Option FeeVersion) (made : Result ApiError NoMemory) (r : Refusal)
    → version ≡ None → r ≡ refusal_of made → IfOk made (λ error. error ≡ error_of (InvalidValue (codes "refund_application_fee")))
    → Refuses (fee_due charge amount version) r
fee_refused charge amount version made r none is e =
    refused (fee_due charge amount version) (codes "refund_application_fee") made r (ap (fee_due charge amount) none) is e
