use Rattle.std.proofs.Common.{codes, refl}
use Rattle.std.proofs.lemmas.Result.{err_from_is_err_and}
use Rattle.ph_kinds.specs.Kind as kind
use Rattle.ph_calls.specs.Parameters.{given, may}
use Rattle.ph_calls.proofs.RefusalLemmas.{refused_there}
use Rattle.ph_calls.proofs.intents.capture_intent.Goals as goal

pub returns-in_err-amount-2-clause-refusal : goal.returns-in_err-amount-2-clause-refusal
unfolding given
returns-in_err-amount-2-clause-refusal c =
    let p = err_from_is_err_and c.from_residual-in_err-amount-2.result c.from_residual-in_err-amount-2.ensures.1 in
    rw (p.1, p.2, c.in_ok-amount.ensures.value)
    (refused_there (may kind.Amount (codes "application_fee_amount") c.args.form.now) _ c.in_err-amount-2.field-0.0 c.in_err-amount-2.ensures.refusal)

pub returns-clause-call : goal.returns-clause-call
unfolding given
returns-clause-call c = rw (c.in_ok-amount.ensures.value, c.in_ok-amount-2.ensures.value, c.in_ok-from_slice.ensures) refl
