use Rattle.ph_replaying.proofs.OutcomeLemmas.{exactly}
use Rattle.ph_replaying.proofs.commands.run.Goals as goal

pub returns-then-asks-clause-exactly : goal.returns-then-asks-clause-exactly
returns-then-asks-clause-exactly g c = exactly c.run_replay.ensures
