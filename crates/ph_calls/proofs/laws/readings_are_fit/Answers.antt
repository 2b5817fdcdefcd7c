use Rattle.ph_calls.proofs.FitLemmas.{reading_fit}
use Rattle.ph_calls.proofs.laws.readings_are_fit.Goals as goal

pub returns : goal.returns
returns c = reading_fit
