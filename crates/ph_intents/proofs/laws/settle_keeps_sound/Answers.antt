use Rattle.ph_intents.proofs.SettleLemmas.{settle_keeps}
use Rattle.ph_intents.proofs.laws.settle_keeps_sound.Goals as goal

pub returns : goal.returns
returns c = settle_keeps
