use Rattle.ph_facts.proofs.EnterLemmas.{entered_sound}
use Rattle.ph_facts.proofs.laws.entered_stays_sound.Goals as goal

pub returns : goal.returns
returns c = entered_sound
