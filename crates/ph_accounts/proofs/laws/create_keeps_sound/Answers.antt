use Rattle.ph_accounts.proofs.EntryLemmas.{create_keeps}
use Rattle.ph_accounts.proofs.laws.create_keeps_sound.Goals as goal

pub returns : goal.returns
returns c = create_keeps
