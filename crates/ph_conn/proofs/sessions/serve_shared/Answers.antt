use Rattle.std.proofs.Common.{◌<◌, ◌^◌, refl, sym, ap, subst, ◌∙◌, arith}
use Rattle.ph_conn.specs.Fronts.{known_by}
use Rattle.ph_conn.specs.Grows.{grown_further, grown_stays}
use Rattle.ph_conn.proofs.DeskLemmas.{pass-legal}
use Rattle.ph_conn.proofs.LawLemmas.{authorised_once, laws_hold}
use Rattle.ph_conn.proofs.SessionLemmas.{begins, closes_known, follows_on, stops_limit}
use Rattle.ph_conn.proofs.sessions.serve_shared.Goals as goal

pub loop-i-init : goal.loop-i-init
loop-i-init g c =
    let h = g.O.Hosted in
    let pass = c.args.pass.now in
    record {
      fits = record {
        lock = c.requires.lock;
        small = subst (λ n. n < 2 ^ 62) c.caller.ensures.caller c.caller.ensures.small;
        is_pass = c.caller.ensures.pass;
      };
      becomes = grown_stays pass;
      address = refl;
      serving = rw c.new-talk.ensures (begins c.args.rules.now.limit
          (record { known = known_by h.setup h.plain h.mark pass; link = g.A.Acquirer.link c.args.link.now; counts = g.P.Patience.counts c.args.patience.now })
          (g.C.Source.source c.args.conn.now) (g.C.Sink.sink c.args.conn.now)
          (pass-legal h.setup h.plain h.mark pass (g.met.O.Hosted.legality pass.base pass.front c.caller.ensures.pass.legal)));
    }

pub step-requires-clause-closing : goal.step-requires-clause-closing
step-requires-clause-closing g c = closes_known c.fetch-fetched.result c.fetch-fetched.ensures.fetches

pub returns-in-Some-clause-session : goal.returns-in-Some-clause-session
returns-in-Some-clause-session g c =
    let laws = g.met.C.Duplex in
    let read = c.fetch-fetched.new.input in
    let wrote = c.step.new.output in
    follows_on _ (g.C.Sink.sink read) (g.C.Sink.sink wrote) (g.C.Source.source wrote) c.fetch-fetched.result _ c.loop-i-test.true c.loop-i.invariant.serving c.fetch-fetched.ensures.fetches c.in-Some.ensures.steps
    (ap (λ b. b.sink) (sym (laws.read_keeps read) ∙ c.fetch-fetched.ensures.beside ∙ laws.read_keeps c.loop-i.conn))
    (ap (λ b. b.source) (sym (laws.write_keeps wrote) ∙ c.in-Some.ensures.beside ∙ laws.write_keeps read))

pub returns-in-Some-clause-laws : goal.returns-in-Some-clause-laws
returns-in-Some-clause-laws g c =
    let legal = c.in-Some.ensures.fits.is_pass.legal in
    laws_hold _ _ (g.met.O.Hosted.few c.step.new.held.base c.step.new.held.front legal) (g.met.O.Hosted.legality c.step.new.held.base c.step.new.held.front legal)

pub returns-in-Some-clause-authorised_once : goal.returns-in-Some-clause-authorised_once
returns-in-Some-clause-authorised_once g c =
    let legal = c.in-Some.ensures.fits.is_pass.legal in
    authorised_once _ (g.A.Acquirer.link c.step.new.link)
    (laws_hold _ _ (g.met.O.Hosted.few c.step.new.held.base c.step.new.held.front legal) (g.met.O.Hosted.legality c.step.new.held.base c.step.new.held.front legal)).all_but_the_last_were_challenged

pub loop-i-preserved : goal.loop-i-preserved
loop-i-preserved g c =
    let laws = g.met.C.Duplex in
    let read = c.fetch-fetched.new.input in
    let wrote = c.step.new.output in
    let reading = sym (laws.read_keeps read) ∙ c.fetch-fetched.ensures.beside ∙ laws.read_keeps c.loop-i.conn in
    let writing = sym (laws.write_keeps wrote) ∙ c.in-None.ensures.beside ∙ laws.write_keeps read in
    record {
      fits = c.in-None.ensures.fits;
      becomes = grown_further c.args.pass.now c.loop-i.pass c.step.new.held c.loop-i.invariant.becomes c.in-None.ensures.becomes;
      address = ap (λ b. b.address) writing ∙ ap (λ b. b.address) reading ∙ c.loop-i.invariant.address;
      serving = follows_on _ (g.C.Sink.sink read) (g.C.Sink.sink wrote) (g.C.Source.source wrote) c.fetch-fetched.result _ c.loop-i-test.true c.loop-i.invariant.serving c.fetch-fetched.ensures.fetches c.in-None.ensures.steps
          (ap (λ b. b.sink) reading) (ap (λ b. b.source) writing);
    }

pub returns-clause-session : goal.returns-clause-session
returns-clause-session g c = stops_limit c.loop-i.i c.closed.result c.closed.ensures c.loop-i-test.false (omega arith) c.loop-i.invariant.serving

pub returns-clause-laws : goal.returns-clause-laws
returns-clause-laws g c =
    let legal = c.loop-i.invariant.fits.is_pass.legal in
    laws_hold _ _ (g.met.O.Hosted.few c.loop-i.pass.base c.loop-i.pass.front legal) (g.met.O.Hosted.legality c.loop-i.pass.base c.loop-i.pass.front legal)

pub returns-clause-authorised_once : goal.returns-clause-authorised_once
returns-clause-authorised_once g c =
    let legal = c.loop-i.invariant.fits.is_pass.legal in
    authorised_once _ (g.A.Acquirer.link c.loop-i.link)
    (laws_hold _ _ (g.met.O.Hosted.few c.loop-i.pass.base c.loop-i.pass.front legal) (g.met.O.Hosted.legality c.loop-i.pass.base c.loop-i.pass.front legal)).all_but_the_last_were_challenged
