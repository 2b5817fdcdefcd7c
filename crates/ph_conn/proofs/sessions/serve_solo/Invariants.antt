use Rattle.ph_conn.specs.Fronts.{known_alone}
use Rattle.ph_conn.proofs.SessionLemmas.{Serving}
use Rattle.ph_conn.proofs.sessions.serve_solo.Given as goal

abbrev pub invariant-loop-i : goal.invariant-loop-i
invariant-loop-i g l =
    Serving l.rules.limit l.i l.talk
    (record { known = known_alone l.fn.book; link = g.A.Acquirer.link l.fn.link; counts = g.P.Patience.counts l.fn.patience })
    (record { known = known_alone l.book; link = g.A.Acquirer.link l.link; counts = g.P.Patience.counts l.patience })
    (g.S.Source.source l.fn.input) (g.S.Source.source l.input) (g.K.Sink.sink l.fn.output) (g.K.Sink.sink l.output)
