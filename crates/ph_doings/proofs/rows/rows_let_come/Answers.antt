use Rattle.ph_doings.proofs.Coming.{rows_let_come}
use Rattle.ph_doings.proofs.rows.rows_let_come.Goals as goal

pub returns : goal.returns
returns c = rows_let_come
