use Rattle.std.proofs.Common.{◌≡◌, sym, subst, ap, ◌∙◌, Some}
use Rattle.ph_lock.specs.Histories.{StartsWith}
use Rattle.ph_lock.proofs.Acts.{still_allowed, history_of, begins_with, entered, refused}
use Rattle.ph_lock.proofs.lock.Lock.act.Goals as goal

pub apply-answer-requires-clause-allowed : goal.apply-answer-requires-clause-allowed
apply-answer-requires-clause-allowed g c =
    let o = g.O.Object in
    let inside = c.pass.inside in
    let pass = c.args.pass.now in
    let is = c.pass.view_is in
    let name : inside.caller ≡ pass.caller = ap (λ p. p.caller) is in
    let object = c.enter-object.result in
    subst (λ n. o.allows (o.base object) (o.history object) n c.args.act) (sym name)
    (still_allowed o.base o.history o.by o.lawful o.allows g.met.O.Object.stays inside.seat.me.0 pass object c.args.act (c.pass.invariant.named ∙ ap (λ n. Some n) name) (ap (λ p. p.base) is) (ap (λ p. p.front) is) c.enter-object.ensures.found c.requires.allowed)

pub leave-requires-clause-history : goal.leave-requires-clause-history
leave-requires-clause-history g c =
    let o = g.O.Object in
    let object = c.enter-object.result in
    let turn = c.enter-object.ensures.entered in
    let applied = c.apply-answer.ensures in (
      turn.0,
      o.history object,
      ap (λ m. m.0.stage) turn.1,
      history_of o.by o.deed o.deed_of o.answers o.full (o.base object) (o.history object) (o.history c.apply-answer.new.self) c.pass.inside.caller c.args.act c.apply-answer.result _ applied.ok applied.err,
    )

pub returns-clause-ok : goal.returns-clause-ok
returns-clause-ok g c =
    let o = g.O.Object in
    let inside = c.pass.inside in
    let is = c.pass.view_is in
    let object = c.enter-object.result in
    let found = c.enter-object.ensures.found in
    let own = found.own inside.caller c.pass.invariant.named in
    let left = c.leave.ensures.left in
    let applied = c.apply-answer.ensures in
    entered o.by o.deed o.deed_of o.answers o.full (o.base object) (o.history object) (o.history c.apply-answer.new.self) inside.caller c.args.act _ c.apply-answer.result c.args.pass.now _
    (found.base_is ∙ ap (λ p. p.base) is) (ap (λ p. p.caller) is) (ap (λ m. m.0.front) left) (ap (λ m. m.0.mine) left) (own.0 ∙ ap (λ p. p.mine) is)
    (subst (StartsWith (o.history object)) (ap (λ p. p.front) is) found.seen) applied.no_room applied.ok

pub returns-clause-still : goal.returns-clause-still
returns-clause-still g c =
    let o = g.O.Object in
    let inside = c.pass.inside in
    let pass = c.args.pass.now in
    let is = c.pass.view_is in
    let name : inside.caller ≡ pass.caller = ap (λ p. p.caller) is in
    let object = c.enter-object.result in
    let found = c.enter-object.ensures.found in
    let turn = c.enter-object.ensures.entered in
    let left = c.leave.ensures.left in
    let applied = c.apply-answer.ensures in
    let allowed = subst (λ n. o.allows (o.base object) (o.history object) n c.args.act) (sym name)
    (still_allowed o.base o.history o.by o.lawful o.allows g.met.O.Object.stays inside.seat.me.0 pass object c.args.act (c.pass.invariant.named ∙ ap (λ n. Some n) name) (ap (λ p. p.base) is) (ap (λ p. p.front) is) found c.requires.allowed) in
    refused o.by o.deed o.deed_of o.answers o.full (o.base object) (o.history object) (o.history c.apply-answer.new.self) inside.caller c.args.act c.apply-answer.result _ (λ b h. o.allows b h inside.caller c.args.act) _ _
    (ap (λ m. m.0.base) left ∙ (ap (λ m. m.0.base) turn.1 ∙ sym found.base_is)) (ap (λ m. m.0.front) left) allowed applied.err

pub returns-clause-front : goal.returns-clause-front
returns-clause-front g c =
    let o = g.O.Object in
    let object = c.enter-object.result in
    let found = c.enter-object.ensures.found in
    let after = o.history c.apply-answer.new.self in
    let pass = c.args.pass.now in
    let applied = c.apply-answer.ensures in
    let seen = subst (StartsWith (o.history object)) (ap (λ p. p.front) c.pass.view_is) found.seen in
    subst (λ l. StartsWith l pass.front) (sym (ap (λ m. m.0.front) c.leave.ensures.left))
    (begins_with o.by o.deed o.deed_of o.answers o.full (o.base object) (o.history object) after c.pass.inside.caller c.args.act c.apply-answer.result _ pass.front seen applied.ok applied.err)
