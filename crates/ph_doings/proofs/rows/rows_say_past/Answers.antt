use Rattle.ph_doings.proofs.RowLemmas.{rows_say_past}
use Rattle.ph_doings.proofs.rows.rows_say_past.Goals as goal

pub returns : goal.returns
returns c = rows_say_past
