use Rattle.std.proofs.Common.{rules}
use Rattle.ph_lock.proofs.Keeps.{join, tell}
use Rattle.ph_lock.proofs.turns.merge.Goals as goal

pub join_seat-requires : goal.join_seat-requires
join_seat-requires g c =
    let o = g.O.Object in
    let table = c.args.table.now in
    let seat = c.args.seat.now in
    let other = c.args.other in (
      c.requires.table.0,
      c.requires.table.1,
      c.requires.idle.2,
      search rules,
      join o.base o.history o.by o.lawful (o.base table.key.object.value) o.blank seat.id seat.me.0 other.id other.me.0 c.requires.idle.0 c.requires.idle.1,
    )

pub load-requires : goal.load-requires
load-requires g c =
    let o = g.O.Object in
    let table = c.args.table.now in
    let seat = c.join_seat.new.seat in (
      search rules,
      search rules,
      tell o.base o.history o.by o.lawful (o.base table.key.object.value) table.table_id.slots c.requires.table.3 seat.id seat.me (search rules),
    )
