use Rattle.std.proofs.Common.{rules, ap, ◌∙◌}
use Rattle.ph_lock.proofs.Keeps.{take}
use Rattle.ph_lock.proofs.turns.name.Goals as goal

pub compare_exchange-found-requires : goal.compare_exchange-found-requires
compare_exchange-found-requires g c =
    let o = g.O.Object in
    let table = c.args.table.now in
    let seat = c.loop.seat in
    let same = c.loop.invariant in (
      same.0 ∙ c.requires.table.0,
      search rules,
      take o.base o.history o.by o.lawful (o.base table.key.object.value) table.table_id.slots c.requires.table.2 seat.id seat.me c.peek-next.result (ap (λ m. m.0.stage) same.2 ∙ c.requires.idle.0) (ap (λ m. m.0.caller) same.2 ∙ c.requires.idle.1) (search rules),
    )
