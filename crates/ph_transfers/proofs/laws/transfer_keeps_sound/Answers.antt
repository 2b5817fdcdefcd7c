use Rattle.ph_transfers.proofs.LawLemmas.{transfer_keeps}
use Rattle.ph_transfers.proofs.laws.transfer_keeps_sound.Goals as goal

pub returns : goal.returns
returns c = transfer_keeps
