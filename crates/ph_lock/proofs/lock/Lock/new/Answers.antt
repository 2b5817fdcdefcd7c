use Rattle.std.proofs.Common.{◌≡◌, rules, sym, subst, [], ◌∷◌, Some}
use Rattle.ph_lock.specs.Histories.{AllBelow}
use Rattle.ph_lock.proofs.Keeps.{begins}
use Rattle.ph_lock.proofs.Acts.{first_seat}
use Rattle.ph_lock.proofs.lock.Lock.new.Goals as goal

pub new-requires : goal.new-requires
new-requires g c =
    let o = g.O.Object in
    let items : c.push_reserved.new.self.items ≡ Some c.args.object ∷ [] = search rules in
    let same : c.of.result.value ≡ c.args.object = c.of.ensures in
    rw (items, same) (begins o.base o.history o.by o.lawful (o.base c.args.object) c.args.object c.callers-caller.result c.requires.lawful (search rules) c.callers-caller.ensures.above)

pub invariant_of-result-in-Ok-new : goal.invariant_of-result-in-Ok-new
invariant_of-result-in-Ok-new g c =
    let o = g.O.Object in
    let same : c.args.object ≡ c.of.result.value = sym c.of.ensures in
    first_seat o.by o.lawful c.in-Ok-new.seat.me (o.base c.of.result.value) c.callers-caller.result (o.history c.of.result.value) (search rules) (search rules)
    (subst (λ x. o.lawful (o.base x) (o.history x)) same c.requires.lawful) (subst (λ x. AllBelow o.by c.callers-caller.result (o.history x)) same c.callers-caller.ensures.above)

pub returns-in-Ok-new-clause-pass : goal.returns-in-Ok-new-clause-pass
returns-in-Ok-new-clause-pass g c =
    let o = g.O.Object in
    let same : c.args.object ≡ c.of.result.value = sym c.of.ensures in
    let seat = first_seat o.by o.lawful c.in-Ok-new.seat.me (o.base c.of.result.value) c.callers-caller.result (o.history c.of.result.value) (search rules) (search rules)
    (subst (λ x. o.lawful (o.base x) (o.history x)) same c.requires.lawful) (subst (λ x. AllBelow o.by c.callers-caller.result (o.history x)) same c.callers-caller.ensures.above) in
    record { legal = seat.legal; own = seat.own }
