use Rattle.std.proofs.Common.{◌∙◌, false, true, refl, sym}
use Rattle.ph_sign.specs.Verdicts.{is_old}
use Rattle.ph_sign.proofs.VerdictLemmas.{verdict_at}
use Rattle.ph_sign.proofs.verdicts.verify.Goals as goal

pub returns-then-not-has_value : goal.returns-then-not-has_value
returns-then-not-has_value c =
    verdict_at c.args.header.now c.args.secret.now c.args.body.now _ _ c.in-Some-read_number.t c.args.now c.args.tolerance false
    (is_old c.in-Some-read_number.t c.args.now c.args.tolerance)
    c.in-Some.ensures c.in-Some-read_number.ensures c.in-Some-first_value.ensures
    (sym c.if-not-has_value.true ∙ rw c.signature.ensures at c.has_value.ensures) refl

pub returns-then-is_old : goal.returns-then-is_old
returns-then-is_old c =
    verdict_at c.args.header.now c.args.secret.now c.args.body.now _ _ c.in-Some-read_number.t c.args.now c.args.tolerance true true
    c.in-Some.ensures c.in-Some-read_number.ensures c.in-Some-first_value.ensures
    (sym c.if-not-has_value.false ∙ rw c.signature.ensures at c.has_value.ensures)
    (sym c.if-is_old.true ∙ c.is_old.ensures)

pub returns : goal.returns
returns c =
    verdict_at c.args.header.now c.args.secret.now c.args.body.now _ _ c.in-Some-read_number.t c.args.now c.args.tolerance true false
    c.in-Some.ensures c.in-Some-read_number.ensures c.in-Some-first_value.ensures
    (sym c.if-not-has_value.false ∙ rw c.signature.ensures at c.has_value.ensures)
    (sym c.if-is_old.false ∙ c.is_old.ensures)
