use Rattle.std.proofs.Common.{rules, refl, ap}
use Rattle.ph_lock.proofs.Keeps.{draw, shut}
use Rattle.ph_lock.proofs.turns.shut.Goals as goal

pub fetch_add-ticket-requires : goal.fetch_add-ticket-requires
fetch_add-ticket-requires g c =
    let o = g.O.Object in
    let table = c.args.table.now in
    let seat = c.args.seat.now in (
      c.requires.table.0,
      search rules,
      draw o.base o.history o.by o.lawful (o.base table.key.object.value) table.table_id.slots c.requires.table.2 seat.id seat.me c.requires.idle.0 c.requires.idle.2,
    )

pub load-requires : goal.load-requires
load-requires g c =
    let o = g.O.Object in
    let table = c.args.table.now in
    let seat = c.wait_turn.new.seat in
    let taken = c.wait_turn.ensures.taken in (
      search rules,
      search rules,
      shut o.base o.history o.by o.lawful (o.base table.key.object.value) table.table_id.slots c.requires.table.2 seat.id seat.me taken.0 (o.history taken.1) taken.1 (ap (λ m. m.0.stage) taken.2) (ap (λ m. m.1) taken.2) refl (search rules),
    )
