use Rattle.std.proofs.Common.{◌≡◌, rules, refl, sym, subst, ap, ◌∙◌, Some}
use Rattle.std.specs.Prelude.{IsSome}
use mathlib.Core.Option.{some-injective}
use Rattle.ph_lock.proofs.Keeps.{ends}
use Rattle.ph_lock.proofs.Acts.{found_again}
use Rattle.ph_lock.proofs.turns.take_out.Goals as goal

pub unwrap-requires : goal.unwrap-requires
unwrap-requires g c =
    let o = g.O.Object in
    let closes = c.shut.ensures.closes in
    let seat = c.shut.new.seat in
    let end = ends o.base o.history o.by o.lawful _ seat.id seat.me.0 closes.0 (o.history closes.1) _ _ (ap (λ v. v.stage) closes.2) c.close_with-closed.ensures.values.2 in
    subst IsSome (some-injective _ _ (sym end.1 ∙ c.take-slot.ensures.value)) refl

pub returns : goal.returns
returns g c =
    let o = g.O.Object in
    let closes = c.shut.ensures.closes in
    let seat = c.shut.new.seat in
    let end = ends o.base o.history o.by o.lawful _ seat.id seat.me.0 closes.0 (o.history closes.1) _ _ (ap (λ v. v.stage) closes.2) c.close_with-closed.ensures.values.2 in
    let slot : Some end.0 ≡ c.take-slot.result = some-injective _ _ (sym end.1 ∙ c.take-slot.ensures.value) in
    let is : end.0 ≡ c.unwrap.result = search rules in
    record { found = found_again o.base o.history o.by o.lawful c.args.seat.me.0 closes.1 c.unwrap.result (ap o.base (sym is) ∙ (end.2 ∙ ap (λ v. v.base) closes.2)) (ap o.history (sym is) ∙ end.3) closes.3 }
