use Rattle.ph_conn.proofs.AnswerLemmas.{writable}
use Rattle.ph_conn.proofs.steps.request.Goals as goal

pub send-requires : goal.send-requires
send-requires g c = writable _ _ _ c.answer-outcome.result c.answer-outcome.ensures.answers
