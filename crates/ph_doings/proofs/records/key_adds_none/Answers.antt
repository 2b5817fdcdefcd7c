use Rattle.ph_doings.proofs.RecordLemmas.{key_adds_none}
use Rattle.ph_doings.proofs.records.key_adds_none.Goals as goal

pub returns : goal.returns
returns g c = key_adds_none
