use Rattle.std.proofs.Common.{refl, subst}
use Rattle.ph_base.specs.declared.acquirer.Why.TheVariants as why
use Rattle.ph_book.specs.declared.acts.Act.TheVariants as act
use Rattle.ph_book.specs.declared.acts.Answer.TheVariants as answer
use Rattle.ph_book.specs.declared.hosted.Kept.TheVariants as kept
use Rattle.ph_conn.specs.Fronts.{Entered}
use Rattle.ph_conn.specs.declared.endings.TalkError.TheVariants as fault
use Rattle.ph_conn.proofs.AnswerLemmas.{gives_up, is_replied, may_finish, may_give_up, settles}
use Rattle.ph_conn.proofs.answers.answer.Goals as goal

pub settle-requires-clause-own : goal.settle-requires-clause-own
settle-requires-clause-own g c = λ ruling. may_finish c.in-Waiting.ticket ruling c.in-Waiting.ensures.calls (g.met.D.Desk.small _ _ c.in-Waiting.ensures.fits)

pub park-requires-clause-own : goal.park-requires-clause-own
park-requires-clause-own g c = may_give_up c.in-Waiting.ticket why.Failed c.in-Waiting.ensures.calls (g.met.D.Desk.small _ _ c.in-Waiting.ensures.fits)

pub park-requires-in-NoMemory-kept-clause-own : goal.park-requires-in-NoMemory-kept-clause-own
park-requires-in-NoMemory-kept-clause-own g c = may_give_up c.in-Waiting.ticket why.NoMemory c.in-Waiting.ensures.calls (g.met.D.Desk.small _ _ c.in-Waiting.ensures.fits)

pub returns-in-Replied-clause-answers : goal.returns-in-Replied-clause-answers
returns-in-Replied-clause-answers g c =
    is_replied (g.A.Acquirer.link c.args.link.now) (g.P.Patience.counts c.args.patience.now) c.comes.result c.in-Replied.ensures.calls c.comes.ensures

pub returns-in-Yes-clause-answers : goal.returns-in-Yes-clause-answers
returns-in-Yes-clause-answers g c =
    let drive = c.drive-driven.ensures in
    settles (g.D.Desk.known c.settle.new.held) (g.P.Patience.counts c.args.patience.now) (g.P.Patience.counts c.drive-driven.new.patience) c.settle.result
    (subst (Entered (g.D.Desk.known c.args.held.now) (g.D.Desk.known c.call.new.held) (act.Call c.args.raw) (answer.Wait c.in-Waiting.ticket)) c.in-Yes.is c.in-Waiting.ensures.calls)
    drive.asks drive.starts drive.refusals drive.failed drive.gave_up c.settle.ensures.settles

pub returns-in-Failed-clause-answers : goal.returns-in-Failed-clause-answers
returns-in-Failed-clause-answers g c =
    gives_up c.in-Waiting.ticket kept.Failed c.park.result.1 (g.A.Acquirer.link c.args.link.now) (g.P.Patience.counts c.args.patience.now) why.Failed fault.KeepFault
    (subst (Entered (g.D.Desk.known c.args.held.now) (g.D.Desk.known c.call.new.held) (act.Call c.args.raw) (answer.Wait c.in-Waiting.ticket)) c.in-Failed.is c.in-Waiting.ensures.calls)
    c.park.ensures.ended refl refl

pub returns-in-NoMemory-kept-clause-answers : goal.returns-in-NoMemory-kept-clause-answers
returns-in-NoMemory-kept-clause-answers g c =
    gives_up c.in-Waiting.ticket kept.NoMemory c.park-in-NoMemory-kept.result.1 (g.A.Acquirer.link c.args.link.now) (g.P.Patience.counts c.args.patience.now) why.NoMemory fault.NoMemory
    (subst (Entered (g.D.Desk.known c.args.held.now) (g.D.Desk.known c.call.new.held) (act.Call c.args.raw) (answer.Wait c.in-Waiting.ticket)) c.in-NoMemory-kept.is c.in-Waiting.ensures.calls)
    c.park-in-NoMemory-kept.ensures.ended refl refl
