use Rattle.ph_conn.proofs.DeskLemmas.{entered_by, full_by, may_again, may_by, saw_by}
use Rattle.ph_conn.proofs.locked.LockedDesk.enter.Goals as goal

pub act-requires-clause-allowed : goal.act-requires-clause-allowed
act-requires-clause-allowed g c =
    let h = g.O.Hosted in
    let pass = c.args.held.now in
    g.met.O.Hosted.allowing pass.base pass.front pass.caller c.args.act (may_by h.setup h.plain h.mark pass c.args.act c.requires.allowed)

pub returns-in-Ok-clause-ok : goal.returns-in-Ok-clause-ok
returns-in-Ok-clause-ok g c =
    let h = g.O.Hosted in
    let o = g.O.Object in
    let laws = g.met.O.Hosted in
    let pass = c.args.held.now in
    let e = c.in-Ok.ensures.ok in
    entered_by h.setup h.plain h.mark o.by laws.naming o.deed o.deed_of o.answers o.full o.lawful laws.legality laws.few laws.entering
    pass c.act.new.pass c.args.act c.in-Ok.answer c.part.result.0 c.part.result.1 c.requires.fits.is_pass c.in-Ok.ensures.pass c.in-Ok.ensures.same e
    (c.part.ensures.answer pass.base e.before e.entry e.answered) (c.part.ensures.mark pass.base e.before e.entry e.answered)

pub returns-in-Err-clause-err : goal.returns-in-Err-clause-err
returns-in-Err-clause-err g c =
    let h = g.O.Hosted in
    let o = g.O.Object in
    let laws = g.met.O.Hosted in
    (c.in-Err.ensures.err.0, saw_by h.setup h.plain h.mark o.by laws.naming o.lawful laws.legality c.args.held.now c.act.new.pass c.requires.fits.is_pass c.in-Err.ensures.pass c.in-Err.ensures.same c.in-Err.ensures.err.1)

pub returns-in-Err-clause-still : goal.returns-in-Err-clause-still
returns-in-Err-clause-still g c =
    let h = g.O.Hosted in
    let pass = c.act.new.pass in
    may_again h.setup h.plain h.mark pass c.args.act (g.met.O.Hosted.allowed pass.base pass.front pass.caller c.args.act c.in-Err.ensures.still)

pub returns-in-Err-clause-full : goal.returns-in-Err-clause-full
returns-in-Err-clause-full g c =
    let h = g.O.Hosted in
    let pass = c.act.new.pass in
    λ is. full_by h.setup h.plain h.mark pass c.args.act (g.met.O.Hosted.filling pass.base pass.front c.args.act (c.in-Err.ensures.full is))
