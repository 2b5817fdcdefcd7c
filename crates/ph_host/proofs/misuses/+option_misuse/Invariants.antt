use Rattle.std.proofs.Common.{length}
use Rattle.ph_host.proofs.misuses.+option_misuse.Given as goal

abbrev pub decreases-option_misuse : goal.decreases-option_misuse
decreases-option_misuse l = length l.words.now
