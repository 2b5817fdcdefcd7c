use Rattle.ph_form.proofs.FreeLaw.{least_is_free}
use Rattle.ph_form.proofs.laws.least_number_is_free.Goals as goal

pub returns-clause-free : goal.returns-clause-free
returns-clause-free c = λ leaves beginning small. (least_is_free leaves beginning small).0

pub returns-clause-least : goal.returns-clause-least
returns-clause-least c = λ leaves beginning n small h. (least_is_free leaves beginning small).1 n h
