use Rattle.ph_form.proofs.KeyLaw.{keys_in_brackets}
use Rattle.ph_form.proofs.laws.keys_stand_in_brackets.Goals as goal

pub returns : goal.returns
returns c = keys_in_brackets
