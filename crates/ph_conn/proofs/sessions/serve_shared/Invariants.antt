use Rattle.std.proofs.Common.{◌≡◌}
use Rattle.ph_conn.specs.Fronts.{Grown, IsFit, known_by}
use Rattle.ph_conn.proofs.SessionLemmas.{Serving}
use Rattle.ph_conn.proofs.sessions.serve_shared.Given as goal

abbrev pub invariant-loop-i : goal.invariant-loop-i
invariant-loop-i g l = record {
  fits : IsFit g.O.Object.by g.O.Object.lawful l.lock l.pass;
  becomes : Grown l.fn.pass l.pass;
  address : g.C.Duplex.address l.conn ≡ g.C.Duplex.address l.fn.conn;
  serving : Serving l.rules.limit l.i l.talk
      (record { known = known_by g.O.Hosted.setup g.O.Hosted.plain g.O.Hosted.mark l.fn.pass; link = g.A.Acquirer.link l.fn.link; counts = g.P.Patience.counts l.fn.patience })
      (record { known = known_by g.O.Hosted.setup g.O.Hosted.plain g.O.Hosted.mark l.pass; link = g.A.Acquirer.link l.link; counts = g.P.Patience.counts l.patience })
      (g.C.Source.source l.fn.conn) (g.C.Source.source l.conn) (g.C.Sink.sink l.fn.conn) (g.C.Sink.sink l.conn);
}
