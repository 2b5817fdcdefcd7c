use Rattle.ph_drill.proofs.WriteLemmas.{writes_all}
use Rattle.ph_replaying.specs.Texts.{refusal}
use Rattle.ph_replaying.proofs.telling.write_refusal.Goals as goal

pub returns : goal.returns
unfolding refusal
returns g c = writes_all _ _ _ c.write_line.result c.write_line.ensures.all c.write_line.ensures.front
