use Rattle.ph_history.proofs.OnlyLemmas.{bad_more}
use Rattle.ph_history.proofs.laws.bad_line_stays.Goals as goal

pub returns : goal.returns
returns c = bad_more
