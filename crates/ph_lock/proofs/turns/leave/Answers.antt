use Rattle.std.proofs.Common.{rules}
use Rattle.ph_lock.proofs.Keeps.{leave}
use Rattle.ph_lock.proofs.turns.leave.Goals as goal

pub fetch_add-served-requires : goal.fetch_add-served-requires
fetch_add-served-requires g c =
    let o = g.O.Object in
    let table = c.args.table.now in
    let seat = c.exchange-was.new.seat in
    let history = c.requires.history in (
      search rules,
      search rules,
      leave o.base o.history o.by o.lawful (o.base table.key.object.value) table.table_id.slots c.requires.table.2 seat.id seat.me history.0 history.1 c.args.object c.args.caller (search rules) (search rules) (search rules) history.3 (search rules) (search rules),
    )
