use Rattle.ph_idem.proofs.ShapeLemmas.{form_test}
use Rattle.ph_idem.proofs.shape.is_same_form.Goals as goal

pub returns-clause-test : goal.returns-clause-test
returns-clause-test c = form_test c.is_same.result c.args.one.now c.args.other.now c.is_same.ensures.0 c.is_same.ensures.1
