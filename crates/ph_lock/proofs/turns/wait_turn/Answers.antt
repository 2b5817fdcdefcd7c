use Rattle.std.proofs.Common.{rules, ap, ◌∙◌}
use Rattle.ph_lock.proofs.Keeps.{turn}
use Rattle.ph_lock.proofs.turns.wait_turn.Goals as goal

pub load-served-requires : goal.load-served-requires
load-served-requires g c =
    let o = g.O.Object in
    let table = c.args.table.now in
    let seat = c.loop.seat in
    let same = c.loop.invariant in
    let waits = c.requires.waits in (
      same.0 ∙ c.requires.table.0,
      search rules,
      turn o.base o.history o.by o.lawful (o.base table.key.object.value) table.table_id.slots c.requires.table.2 seat.id seat.me waits.0 (ap (λ m. m.0.stage) same.2 ∙ waits.1) (ap (λ m. m.1) same.2 ∙ waits.3),
    )
