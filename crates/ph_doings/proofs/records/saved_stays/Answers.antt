use Rattle.ph_doings.proofs.RecordLemmas.{saved_stays}
use Rattle.ph_doings.proofs.records.saved_stays.Goals as goal

pub returns : goal.returns
returns g c = saved_stays
