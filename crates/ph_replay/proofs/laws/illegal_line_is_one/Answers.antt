use Rattle.ph_replay.proofs.LegalLemmas.{illegal_one}
use Rattle.ph_replay.proofs.laws.illegal_line_is_one.Goals as goal

pub returns : goal.returns
returns c = illegal_one
