use Rattle.ph_transfers.proofs.LawLemmas.{reverse_keeps}
use Rattle.ph_transfers.proofs.laws.reverse_keeps_sound.Goals as goal

pub returns : goal.returns
returns c = reverse_keeps
