use Rattle.std.proofs.Common.{codes, refl}
use Rattle.std.proofs.lemmas.Result.{err_from_is_err_and}
use Rattle.ph_kinds.specs.Kind as kind
use Rattle.ph_calls.specs.Parameters.{given, may}
use Rattle.ph_calls.proofs.RefusalLemmas.{refused_there}
use Rattle.ph_calls.proofs.intents.create_intent.Goals as goal

pub returns-in_err-capture_method-clause-refusal : goal.returns-in_err-capture_method-clause-refusal
unfolding given
returns-in_err-capture_method-clause-refusal c =
    let p = err_from_is_err_and c.from_residual-in_err-capture_method.result c.from_residual-in_err-capture_method.ensures.1 in
    rw (p.1, p.2, c.in_ok-amount.ensures.value, c.in_ok-required.ensures.value, c.in_ok-currency.ensures.value, c.in_ok-required-2.ensures.value, c.in_ok-method.ensures.value, c.in_ok-truth.ensures.value)
    (refused_there (may kind.CaptureMethod (codes "capture_method") c.args.form.now) _ c.in_err-capture_method.field-0.0 c.in_err-capture_method.ensures.refusal)

pub returns-in_err-text-clause-refusal : goal.returns-in_err-text-clause-refusal
unfolding given
returns-in_err-text-clause-refusal c =
    let p = err_from_is_err_and c.from_residual-in_err-text.result c.from_residual-in_err-text.ensures.1 in
    rw (p.1, p.2, c.in_ok-amount.ensures.value, c.in_ok-required.ensures.value, c.in_ok-currency.ensures.value, c.in_ok-required-2.ensures.value, c.in_ok-method.ensures.value, c.in_ok-truth.ensures.value, c.in_ok-capture_method.ensures.value)
    (refused_there (may (kind.Text 1000) (codes "description") c.args.form.now) _ c.in_err-text.field-0.0 c.in_err-text.ensures.refusal)

pub returns-in_err-metadata-clause-refusal : goal.returns-in_err-metadata-clause-refusal
unfolding given
returns-in_err-metadata-clause-refusal c =
    let p = err_from_is_err_and c.from_residual-in_err-metadata.result c.from_residual-in_err-metadata.ensures.1 in
    rw (p.1, p.2, c.in_ok-amount.ensures.value, c.in_ok-required.ensures.value, c.in_ok-currency.ensures.value, c.in_ok-required-2.ensures.value, c.in_ok-method.ensures.value, c.in_ok-truth.ensures.value, c.in_ok-capture_method.ensures.value, c.in_ok-text.ensures.value)
    (refused_there (may kind.Metadata (codes "metadata") c.args.form.now) _ c.in_err-metadata.field-0.0 c.in_err-metadata.ensures.refusal)

pub returns-in_err-amount-2-clause-refusal : goal.returns-in_err-amount-2-clause-refusal
unfolding given
returns-in_err-amount-2-clause-refusal c =
    let p = err_from_is_err_and c.from_residual-in_err-amount-2.result c.from_residual-in_err-amount-2.ensures.1 in
    rw (p.1, p.2, c.in_ok-amount.ensures.value, c.in_ok-required.ensures.value, c.in_ok-currency.ensures.value, c.in_ok-required-2.ensures.value, c.in_ok-method.ensures.value, c.in_ok-truth.ensures.value, c.in_ok-capture_method.ensures.value, c.in_ok-text.ensures.value, c.in_ok-metadata.ensures.value)
    (refused_there (may kind.Amount (codes "application_fee_amount") c.args.form.now) _ c.in_err-amount-2.field-0.0 c.in_err-amount-2.ensures.refusal)

pub returns-in_err-id-clause-refusal : goal.returns-in_err-id-clause-refusal
unfolding given
returns-in_err-id-clause-refusal c =
    let p = err_from_is_err_and c.from_residual-in_err-id.result c.from_residual-in_err-id.ensures.1 in
    rw (p.1, p.2, c.in_ok-amount.ensures.value, c.in_ok-required.ensures.value, c.in_ok-currency.ensures.value, c.in_ok-required-2.ensures.value, c.in_ok-method.ensures.value, c.in_ok-truth.ensures.value, c.in_ok-capture_method.ensures.value, c.in_ok-text.ensures.value, c.in_ok-metadata.ensures.value, c.in_ok-amount-2.ensures.value)
    (refused_there (may kind.Id (codes "transfer_data[destination]") c.args.form.now) _ c.in_err-id.field-0.0 c.in_err-id.ensures.refusal)

pub returns-in_err-text-2-clause-refusal : goal.returns-in_err-text-2-clause-refusal
unfolding given
returns-in_err-text-2-clause-refusal c =
    let p = err_from_is_err_and c.from_residual-in_err-text-2.result c.from_residual-in_err-text-2.ensures.1 in
    rw (p.1, p.2, c.in_ok-amount.ensures.value, c.in_ok-required.ensures.value, c.in_ok-currency.ensures.value, c.in_ok-required-2.ensures.value, c.in_ok-method.ensures.value, c.in_ok-truth.ensures.value, c.in_ok-capture_method.ensures.value, c.in_ok-text.ensures.value, c.in_ok-metadata.ensures.value, c.in_ok-amount-2.ensures.value, c.in_ok-id.ensures.value)
    (refused_there (may (kind.Text 255) (codes "transfer_group") c.args.form.now) _ c.in_err-text-2.field-0.0 c.in_err-text-2.ensures.refusal)

pub returns-clause-call : goal.returns-clause-call
unfolding given
returns-clause-call c =
    rw (c.in_ok-amount.ensures.value, c.in_ok-required.ensures.value, c.in_ok-currency.ensures.value, c.in_ok-required-2.ensures.value, c.in_ok-method.ensures.value, c.in_ok-truth.ensures.value, c.in_ok-capture_method.ensures.value, c.in_ok-text.ensures.value, c.in_ok-metadata.ensures.value, c.in_ok-amount-2.ensures.value, c.in_ok-id.ensures.value, c.in_ok-text-2.ensures.value, c.unwrap_or.ensures) refl
