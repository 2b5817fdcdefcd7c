use Rattle.std.proofs.Common.{length}
use Rattle.ph_host.proofs.flags.+asks_history.Given as goal

abbrev pub decreases-asks_history : goal.decreases-asks_history
decreases-asks_history l = length l.words.now
