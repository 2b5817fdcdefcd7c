use Rattle.ph_calls.proofs.ErrorLemmas.{reading_refused}
use Rattle.ph_calls.proofs.laws.readings_are_refused.Goals as goal

pub returns : goal.returns
returns c = reading_refused
