use Rattle.std.proofs.Common.{length}
use Rattle.cases.proofs.desk.Desk.close.Given as goal

abbrev pub decreases-loop-self : goal.decreases-loop-self
decreases-loop-self l = length l.self.tickets
