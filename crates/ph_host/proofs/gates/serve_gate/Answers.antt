use Rattle.std.proofs.Common.{refl, sym, subst, ◌∙◌, ap}
use Rattle.ph_io.specs.Gates.{TakesBack, return_of}
use Rattle.ph_conn.specs.Fronts.{known_by}
use Rattle.ph_host.specs.Visits.{Visit, IsVisit, counted_if, is_broken, record_of, stop_of}
use Rattle.ph_host.proofs.VisitLemmas.{serving_as, serving_none, serving_more, served_last}
use Rattle.ph_host.proofs.gates.serve_gate.Goals as goal

pub loop-init : goal.loop-init
loop-init g c = record {
  same = record { lock = refl; base = refl; caller = refl };
  pass = c.caller.ensures.pass;
  serving = serving_none _ _ _;
}

pub loop-preserved : goal.loop-preserved
loop-preserved g c =
    let session = c.serve_shared-ending in
    let visit : Visit = record {
      source0 = g.G.Conn.Source.source c.in-Ok-Some.conn;
      source1 = g.G.Conn.Source.source session.new.conn;
      sink0 = g.G.Conn.Sink.sink c.in-Ok-Some.conn;
      sink1 = g.G.Conn.Sink.sink session.new.conn;
      ending = session.result;
      means = record {
        known = known_by g.O.Hosted.setup g.O.Hosted.plain g.O.Hosted.mark session.new.pass;
        link = g.A.Acquirer.link session.new.link;
        counts = g.P.Patience.counts session.new.patience;
      };
    } in
    let took : TakesBack _ _ (record_of visit) = subst (λ end. TakesBack (g.G.Gate.gate c.next-in-loop.new.self) (g.G.Gate.gate c.back.new.self) (return_of (g.G.Conn.Source.source session.new.conn) (g.G.Conn.Sink.sink session.new.conn) end)) c.end_of-end.ensures c.back.ensures in
    let is : IsVisit c.args.rules.now.limit _ visit = record { fresh = rw c.in-Ok-Some.field-0-is at c.in-Ok-Some.ensures.fresh; session = session.ensures.session } in
    let before = c.loop.invariant.same in
    let now = session.ensures.same in
    record {
      same = record { lock = now.lock ∙ before.lock; base = now.base ∙ before.base; caller = now.caller ∙ before.caller };
      pass = session.ensures.pass;
      serving =
          serving_as _ _ _ _ _ _ _ _ _ c.counted-sessions.ensures
          (c.counted-broken.ensures ∙ ap (λ b. counted_if b c.loop.broken) (c.is_broken.ensures ∙ ap is_broken c.end_of-end.ensures))
          (serving_more _ _ _ _ _ _ _ _ _ visit c.loop.invariant.serving (rw c.in-Ok-Some.field-0-is at c.in-Ok-Some.ensures.gives) took is
          (sym (c.stop_of.ensures ∙ ap stop_of c.end_of-end.ensures) ∙ c.in-None-stop_of.is));
    }

pub returns-in-Some-stop_of-clause-served : goal.returns-in-Some-stop_of-clause-served
returns-in-Some-stop_of-clause-served g c =
    let session = c.serve_shared-ending in
    let visit : Visit = record {
      source0 = g.G.Conn.Source.source c.in-Ok-Some.conn;
      source1 = g.G.Conn.Source.source session.new.conn;
      sink0 = g.G.Conn.Sink.sink c.in-Ok-Some.conn;
      sink1 = g.G.Conn.Sink.sink session.new.conn;
      ending = session.result;
      means = record {
        known = known_by g.O.Hosted.setup g.O.Hosted.plain g.O.Hosted.mark session.new.pass;
        link = g.A.Acquirer.link session.new.link;
        counts = g.P.Patience.counts session.new.patience;
      };
    } in
    let took : TakesBack _ _ (record_of visit) = subst (λ end. TakesBack (g.G.Gate.gate c.next-in-loop.new.self) (g.G.Gate.gate c.back.new.self) (return_of (g.G.Conn.Source.source session.new.conn) (g.G.Conn.Sink.sink session.new.conn) end)) c.end_of-end.ensures c.back.ensures in
    let is : IsVisit c.args.rules.now.limit _ visit = record { fresh = rw c.in-Ok-Some.field-0-is at c.in-Ok-Some.ensures.fresh; session = session.ensures.session } in
    served_last _ _ _ _ _ _ _ _ _ visit _ c.loop.invariant.serving (rw c.in-Ok-Some.field-0-is at c.in-Ok-Some.ensures.gives) took is
    (sym (c.stop_of.ensures ∙ ap stop_of c.end_of-end.ensures) ∙ c.in-Some-stop_of.is)
