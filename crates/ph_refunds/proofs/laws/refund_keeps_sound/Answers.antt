use Rattle.ph_refunds.proofs.LawLemmas.{refund_keeps}
use Rattle.ph_refunds.proofs.laws.refund_keeps_sound.Goals as goal

pub returns : goal.returns
returns c = refund_keeps
