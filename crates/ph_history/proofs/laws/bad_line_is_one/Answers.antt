use Rattle.ph_history.proofs.FaultLemmas.{bad_line_one}
use Rattle.ph_history.proofs.laws.bad_line_is_one.Goals as goal

pub returns : goal.returns
returns c = bad_line_one
