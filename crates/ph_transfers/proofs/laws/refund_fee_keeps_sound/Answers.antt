use Rattle.ph_transfers.proofs.LawLemmas.{refund_fee_keeps}
use Rattle.ph_transfers.proofs.laws.refund_fee_keeps_sound.Goals as goal

pub returns : goal.returns
returns c = refund_fee_keeps
