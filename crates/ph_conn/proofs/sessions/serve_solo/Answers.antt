use Rattle.std.proofs.Common.{arith}
use Rattle.ph_conn.specs.Fronts.{known_alone}
use Rattle.ph_conn.proofs.DeskLemmas.{known-legal}
use Rattle.ph_conn.proofs.KeptLemmas.{alone}
use Rattle.ph_conn.proofs.SessionLemmas.{begins, closes_known, follows, stops_limit}
use Rattle.ph_conn.proofs.sessions.serve_solo.Goals as goal

pub loop-i-init : goal.loop-i-init
loop-i-init g c = rw c.new-talk.ensures (begins c.args.rules.now.limit (record { known = known_alone c.args.book.now; link = g.A.Acquirer.link c.args.link.now; counts = g.P.Patience.counts c.args.patience.now }) (g.S.Source.source c.args.input.now) (g.K.Sink.sink c.args.output.now) (known-legal c.args.book.now c.history_is_legal.ensures))

pub step-requires-clause-closing : goal.step-requires-clause-closing
step-requires-clause-closing g c = closes_known c.fetch-fetched.result c.fetch-fetched.ensures.fetches

pub returns-in-Some : goal.returns-in-Some
returns-in-Some g c = alone c.args.book.now c.step.new.held (follows _ _ c.fetch-fetched.result _ c.loop-i-test.true c.loop-i.invariant c.fetch-fetched.ensures.fetches c.in-Some.ensures.steps)

pub loop-i-preserved : goal.loop-i-preserved
loop-i-preserved g c = follows _ _ c.fetch-fetched.result _ c.loop-i-test.true c.loop-i.invariant c.fetch-fetched.ensures.fetches c.in-None.ensures.steps

pub returns : goal.returns
returns g c = alone c.args.book.now c.loop-i.book (stops_limit c.loop-i.i c.closed.result c.closed.ensures c.loop-i-test.false (omega arith) c.loop-i.invariant)
