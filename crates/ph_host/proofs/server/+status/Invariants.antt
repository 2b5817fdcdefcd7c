use Rattle.std.proofs.Common.{length}
use Rattle.ph_host.proofs.server.+status.Given as goal

abbrev pub decreases-status : goal.decreases-status
decreases-status g l = length l.workers.now
