use Rattle.std.proofs.Common.{subst}
use Rattle.ph_book.specs.Tickets.{SpendsOwn}
use Rattle.ph_conn.proofs.DeskLemmas.{answered_alone, entered_alone, entries-kept, full_alone, saw_alone}
use Rattle.ph_conn.proofs.alone.AloneDesk.enter.Goals as goal

pub apply-requires-clause-own : goal.apply-requires-clause-own
apply-requires-clause-own c = subst (λ h. SpendsOwn c.args.held.now.setup h 0 c.args.act) (entries-kept c.args.held.now.history) c.requires.allowed.own

pub returns-in-Ok-clause-ok : goal.returns-in-Ok-clause-ok
returns-in-Ok-clause-ok c =
    let ok = c.in-Ok.ensures in
    entered_alone c.args.held.now c.apply.new.self c.args.act c.in-Ok.answer ok.entry ok.lawful.legal
    (answered_alone c.args.held.now c.apply.new.self c.args.act c.in-Ok.answer ok.entry ok.answer ok.kind ok.status ok.live) ok.runs

pub returns-in-Err-clause-err : goal.returns-in-Err-clause-err
returns-in-Err-clause-err c =
    let err = c.in-Err.ensures in
    (err.unchanged.0, saw_alone c.args.held.now c.apply.new.self err.unchanged.1 err.lawful.legal)

pub returns-in-Err-clause-full : goal.returns-in-Err-clause-full
returns-in-Err-clause-full c = λ is. full_alone c.args.held.now c.apply.new.self c.args.act c.in-Err.ensures.unchanged.1 (c.in-Err.ensures.full.0 is)
