use Rattle.std.proofs.Common.{codes, refl}
use Rattle.std.proofs.lemmas.Result.{err_from_is_err_and}
use Rattle.ph_kinds.specs.Kind as kind
use Rattle.ph_calls.specs.Parameters.{given, may}
use Rattle.ph_calls.proofs.RefusalLemmas.{refused_there}
use Rattle.ph_calls.proofs.refunds.create_refund.Goals as goal

pub returns-in_err-metadata-clause-refusal : goal.returns-in_err-metadata-clause-refusal
unfolding given
returns-in_err-metadata-clause-refusal c =
    let p = err_from_is_err_and c.from_residual-in_err-metadata.result c.from_residual-in_err-metadata.ensures.1 in
    rw (p.1, p.2, c.in_ok-id.ensures.value, c.in_ok-id-2.ensures.value, c.in_ok-amount.ensures.value, c.in_ok-refund_reason.ensures.value)
    (refused_there (may kind.Metadata (codes "metadata") c.args.form.now) _ c.in_err-metadata.field-0.0 c.in_err-metadata.ensures.refusal)

pub returns-in_err-truth-clause-refusal : goal.returns-in_err-truth-clause-refusal
unfolding given
returns-in_err-truth-clause-refusal c =
    let p = err_from_is_err_and c.from_residual-in_err-truth.result c.from_residual-in_err-truth.ensures.1 in
    rw (p.1, p.2, c.in_ok-id.ensures.value, c.in_ok-id-2.ensures.value, c.in_ok-amount.ensures.value, c.in_ok-refund_reason.ensures.value, c.in_ok-metadata.ensures.value)
    (refused_there (may kind.Truth (codes "reverse_transfer") c.args.form.now) _ c.in_err-truth.field-0.0 c.in_err-truth.ensures.refusal)

pub returns-in_err-truth-2-clause-refusal : goal.returns-in_err-truth-2-clause-refusal
unfolding given
returns-in_err-truth-2-clause-refusal c =
    let p = err_from_is_err_and c.from_residual-in_err-truth-2.result c.from_residual-in_err-truth-2.ensures.1 in
    rw (p.1, p.2, c.in_ok-id.ensures.value, c.in_ok-id-2.ensures.value, c.in_ok-amount.ensures.value, c.in_ok-refund_reason.ensures.value, c.in_ok-metadata.ensures.value, c.in_ok-truth.ensures.value)
    (refused_there (may kind.Truth (codes "refund_application_fee") c.args.form.now) _ c.in_err-truth-2.field-0.0 c.in_err-truth-2.ensures.refusal)

pub returns-clause-call : goal.returns-clause-call
unfolding given
returns-clause-call c =
    rw (c.in_ok-id.ensures.value, c.in_ok-id-2.ensures.value, c.in_ok-amount.ensures.value, c.in_ok-refund_reason.ensures.value, c.in_ok-metadata.ensures.value, c.in_ok-truth.ensures.value, c.in_ok-truth-2.ensures.value, c.unwrap_or.ensures, c.unwrap_or-2.ensures)
    refl
