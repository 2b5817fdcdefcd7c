use Rattle.ph_history.proofs.ReadLemmas.{Begun}
use Rattle.ph_history.proofs.reading.read.Given as goal

abbrev pub invariant-loop-at : goal.invariant-loop-at
invariant-loop-at g l = Begun l.unread.items l.part (g.S.Source.source l.fn.source) (g.S.Source.source l.source) l.at
