use Rattle.std.proofs.Common.{ap, ◌∙◌}
use Rattle.ph_lock.specs.Histories.{own_entries}
use Rattle.ph_lock.proofs.Owns.{own_none}
use Rattle.ph_lock.proofs.lock.Lock.split.Goals as goal

pub returns-clause-none : goal.returns-clause-none
returns-clause-none g c =
    let o = g.O.Object in
    let name = c.name-caller.result in
    own_none o.by name 1 c.name-caller.new.seat.me.0.front (ap (λ v. own_entries o.by name 1 v.front) c.name-caller.ensures.named.0 ∙ c.name-caller.ensures.none)
