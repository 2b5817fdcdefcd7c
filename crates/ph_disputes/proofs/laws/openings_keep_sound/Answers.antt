use Rattle.ph_disputes.proofs.OpeningLemmas.{open_due_keeps, open_keeps}
use Rattle.ph_disputes.proofs.laws.openings_keep_sound.Goals as goal

pub returns-clause-open : goal.returns-clause-open
returns-clause-open c = open_keeps

pub returns-clause-open_due : goal.returns-clause-open_due
returns-clause-open_due c = open_due_keeps
