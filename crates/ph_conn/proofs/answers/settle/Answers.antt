use Rattle.std.proofs.Common.{refl, sym, subst}
use Rattle.ph_base.specs.declared.acquirer.Ruling.TheVariants as ruling
use Rattle.ph_base.specs.declared.acquirer.Why.TheVariants as why
use Rattle.ph_book.specs.declared.acts.Act.TheVariants as act
use Rattle.ph_conn.specs.Fronts.{MayDo}
use Rattle.ph_conn.specs.Parts.{EndsBy, Settled, GivenUp}
use Rattle.ph_conn.proofs.AnswerLemmas.{breaks_out, breaks_too, came_back, may_park, out_kept, out_unkept, settled_as}
use Rattle.ph_conn.proofs.answers.settle.Goals as goal

pub finish-requires-clause-own : goal.finish-requires-clause-own
finish-requires-clause-own g c = c.requires.own c.in-Ready.ruling

pub park-kept-requires-clause-own : goal.park-kept-requires-clause-own
park-kept-requires-clause-own g c =
    subst (λ t. MayDo (g.D.Desk.known c.finish.new.held) (act.Park t why.NoMemory)) (sym c.in-Err.ensures.finishes.0)
    (may_park (g.D.Desk.known c.finish.new.held) c.args.ticket c.in-Ready.ruling why.NoMemory c.in-Err.ensures.still)

pub park-reply-requires-clause-own : goal.park-reply-requires-clause-own
park-reply-requires-clause-own g c = may_park (g.D.Desk.known c.args.held.now) c.args.ticket ruling.Approved why.Failed (c.requires.own ruling.Approved)

pub park-reply-requires-in-GaveUp-clause-own : goal.park-reply-requires-in-GaveUp-clause-own
park-reply-requires-in-GaveUp-clause-own g c = may_park (g.D.Desk.known c.args.held.now) c.args.ticket ruling.Approved why.Pending (c.requires.own ruling.Approved)

pub returns-in-Ok-clause-settles : goal.returns-in-Ok-clause-settles
returns-in-Ok-clause-settles g c =
    settled_as c.args.ticket c.args.driven c.in-Ok.kept (Settled c.in-Ready.ruling) c.comes.result c.in-Ok.ensures.finishes
    (subst (λ d. EndsBy d (Settled c.in-Ready.ruling)) (sym c.in-Ready.is) refl) refl c.comes.ensures

pub returns-in-Yes-clause-settles : goal.returns-in-Yes-clause-settles
returns-in-Yes-clause-settles g c =
    out_kept c.args.ticket c.args.driven c.in-Ready.ruling c.in-Ready.is c.in-Yes.is
    (came_back c.in-Err.ticket c.args.ticket why.NoMemory c.in-Err.ensures.finishes.0 c.in-Err.ensures.finishes.1 c.park-kept.ensures.ended)

pub returns-in-Failed-kept-clause-settles : goal.returns-in-Failed-kept-clause-settles
returns-in-Failed-kept-clause-settles g c =
    out_unkept c.args.ticket c.args.driven c.in-Ready.ruling c.in-Ready.is (breaks_out c.park-kept.result.1 c.in-Failed-kept.is)
    (came_back c.in-Err.ticket c.args.ticket why.NoMemory c.in-Err.ensures.finishes.0 c.in-Err.ensures.finishes.1 c.park-kept.ensures.ended)

pub returns-in-NoMemory-clause-settles : goal.returns-in-NoMemory-clause-settles
returns-in-NoMemory-clause-settles g c =
    out_unkept c.args.ticket c.args.driven c.in-Ready.ruling c.in-Ready.is (breaks_too c.park-kept.result.1 c.in-NoMemory.is)
    (came_back c.in-Err.ticket c.args.ticket why.NoMemory c.in-Err.ensures.finishes.0 c.in-Err.ensures.finishes.1 c.park-kept.ensures.ended)

pub returns-in-Failed-clause-settles : goal.returns-in-Failed-clause-settles
returns-in-Failed-clause-settles g c =
    settled_as c.args.ticket c.args.driven c.park-reply.result.1 (GivenUp why.Failed) c.comes-in-Failed.result c.park-reply.ensures.ended
    (subst (λ d. EndsBy d (GivenUp why.Failed)) (sym c.in-Failed.is) refl) refl c.comes-in-Failed.ensures

pub returns-in-GaveUp-clause-settles : goal.returns-in-GaveUp-clause-settles
returns-in-GaveUp-clause-settles g c =
    settled_as c.args.ticket c.args.driven c.park-reply-in-GaveUp.result.1 (GivenUp why.Pending) c.comes-in-GaveUp.result c.park-reply-in-GaveUp.ensures.ended
    (subst (λ d. EndsBy d (GivenUp why.Pending)) (sym c.in-GaveUp.is) refl) refl c.comes-in-GaveUp.ensures
