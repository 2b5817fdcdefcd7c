use Rattle.ph_doings.proofs.RowLemmas.{past_is_in_rows}
use Rattle.ph_doings.proofs.rows.past_is_in_rows.Goals as goal

pub returns : goal.returns
returns c = past_is_in_rows
