use Rattle.std.proofs.Common.{codes, refl}
use Rattle.std.proofs.lemmas.Result.{err_from_is_err_and}
use Rattle.ph_kinds.specs.Kind as kind
use Rattle.ph_calls.specs.Parameters.{given, may}
use Rattle.ph_calls.proofs.RefusalLemmas.{refused_there}
use Rattle.ph_calls.proofs.transfers.create_transfer.Goals as goal

pub returns-in_err-id-2-clause-refusal : goal.returns-in_err-id-2-clause-refusal
unfolding given
returns-in_err-id-2-clause-refusal c =
    let p = err_from_is_err_and c.from_residual-in_err-id-2.result c.from_residual-in_err-id-2.ensures.1 in
    rw (p.1, p.2, c.in_ok-amount.ensures.value, c.in_ok-required.ensures.value, c.in_ok-currency.ensures.value, c.in_ok-required-2.ensures.value, c.in_ok-id.ensures.value, c.in_ok-required-3.ensures.value)
    (refused_there (may kind.Id (codes "source_transaction") c.args.form.now) _ c.in_err-id-2.field-0.0 c.in_err-id-2.ensures.refusal)

pub returns-in_err-text-clause-refusal : goal.returns-in_err-text-clause-refusal
unfolding given
returns-in_err-text-clause-refusal c =
    let p = err_from_is_err_and c.from_residual-in_err-text.result c.from_residual-in_err-text.ensures.1 in
    rw (p.1, p.2, c.in_ok-amount.ensures.value, c.in_ok-required.ensures.value, c.in_ok-currency.ensures.value, c.in_ok-required-2.ensures.value, c.in_ok-id.ensures.value, c.in_ok-required-3.ensures.value, c.in_ok-id-2.ensures.value)
    (refused_there (may (kind.Text 1000) (codes "description") c.args.form.now) _ c.in_err-text.field-0.0 c.in_err-text.ensures.refusal)

pub returns-in_err-metadata-clause-refusal : goal.returns-in_err-metadata-clause-refusal
unfolding given
returns-in_err-metadata-clause-refusal c =
    let p = err_from_is_err_and c.from_residual-in_err-metadata.result c.from_residual-in_err-metadata.ensures.1 in
    rw (p.1, p.2, c.in_ok-amount.ensures.value, c.in_ok-required.ensures.value, c.in_ok-currency.ensures.value, c.in_ok-required-2.ensures.value, c.in_ok-id.ensures.value, c.in_ok-required-3.ensures.value, c.in_ok-id-2.ensures.value, c.in_ok-text.ensures.value)
    (refused_there (may kind.Metadata (codes "metadata") c.args.form.now) _ c.in_err-metadata.field-0.0 c.in_err-metadata.ensures.refusal)

pub returns-in_err-text-2-clause-refusal : goal.returns-in_err-text-2-clause-refusal
unfolding given
returns-in_err-text-2-clause-refusal c =
    let p = err_from_is_err_and c.from_residual-in_err-text-2.result c.from_residual-in_err-text-2.ensures.1 in
    rw (p.1, p.2, c.in_ok-amount.ensures.value, c.in_ok-required.ensures.value, c.in_ok-currency.ensures.value, c.in_ok-required-2.ensures.value, c.in_ok-id.ensures.value, c.in_ok-required-3.ensures.value, c.in_ok-id-2.ensures.value, c.in_ok-text.ensures.value, c.in_ok-metadata.ensures.value)
    (refused_there (may (kind.Text 255) (codes "transfer_group") c.args.form.now) _ c.in_err-text-2.field-0.0 c.in_err-text-2.ensures.refusal)

pub returns-clause-call : goal.returns-clause-call
unfolding given
returns-clause-call c =
    rw (c.in_ok-amount.ensures.value, c.in_ok-required.ensures.value, c.in_ok-currency.ensures.value, c.in_ok-required-2.ensures.value, c.in_ok-id.ensures.value, c.in_ok-required-3.ensures.value, c.in_ok-id-2.ensures.value, c.in_ok-text.ensures.value, c.in_ok-metadata.ensures.value, c.in_ok-text-2.ensures.value)
    refl
