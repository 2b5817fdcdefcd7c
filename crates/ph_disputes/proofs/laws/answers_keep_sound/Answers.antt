use Rattle.ph_disputes.proofs.AnswerLemmas.{close_keeps, evidence_keeps}
use Rattle.ph_disputes.proofs.laws.answers_keep_sound.Goals as goal

pub returns-clause-evidence : goal.returns-clause-evidence
returns-clause-evidence c = evidence_keeps

pub returns-clause-close : goal.returns-clause-close
returns-clause-close c = close_keeps
