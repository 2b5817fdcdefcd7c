use Rattle.std.proofs.Common.{rules, sym, ap, Some, ◌∙◌, ◌∷◌}
use Rattle.atomic_table.specs.Table.{rest}
use Rattle.ph_lock.proofs.Keeps.{draw}
use Rattle.ph_lock.proofs.turns.enter.Goals as goal

pub fetch_add-ticket-requires : goal.fetch_add-ticket-requires
fetch_add-ticket-requires g c =
    let o = g.O.Object in
    let table = c.args.table.now in
    let seat = c.args.seat.now in (
      c.requires.table.0,
      search rules,
      draw o.base o.history o.by o.lawful (o.base table.key.object.value) table.table_id.slots c.requires.table.2 seat.id seat.me c.requires.idle.0 c.requires.idle.2,
    )

pub exchange-requires : goal.exchange-requires
exchange-requires g c =
    let taken = c.wait_turn.ensures.taken in
    let held = ap (λ m. m.1) taken.2 in
    (search rules, (Some taken.1, held ∙ ap (λ l. (0, Some taken.1) ∷ rest l) (sym held)))
