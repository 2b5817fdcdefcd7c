use Rattle.ph_replay.proofs.LegalLemmas.{illegal_never}
use Rattle.ph_replay.proofs.laws.illegal_is_not_legal.Goals as goal

pub returns : goal.returns
returns c = illegal_never
