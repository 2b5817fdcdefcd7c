use Rattle.std.proofs.Common.{rules, sym, subst, ap, ◌∙◌}
use Rattle.ph_lock.specs.Rule.{IsLive}
use Rattle.ph_lock.proofs.Keeps.{split}
use Rattle.ph_lock.proofs.lock.Lock.note.Goals as goal

pub split_seat-requires : goal.split_seat-requires
split_seat-requires g c =
    let o = g.O.Object in
    let table = c.self.inside.table.shared in
    let seat = c.pass.inside.seat in (
      ap (λ p. p.lock) c.pass.view_is ∙ (c.requires.lock ∙ sym c.self.view_is),
      search rules,
      split o.base o.history o.by o.lawful (o.base table.key.object.value) seat.id seat.me.0 (subst IsLive (sym c.pass.invariant.idle) tt),
    )
