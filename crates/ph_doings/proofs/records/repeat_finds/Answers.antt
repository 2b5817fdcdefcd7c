use Rattle.ph_doings.proofs.RecordLemmas.{repeat_finds}
use Rattle.ph_doings.proofs.records.repeat_finds.Goals as goal

pub returns : goal.returns
returns g c = repeat_finds
