use Rattle.std.proofs.Common.{◌≡◌, refl}
use Rattle.ph_attempts.proofs.ListLemmas.{parked_has}
use Rattle.ph_attempts.proofs.unsettled.Attempts.resume.Goals as goal

pub returns-clause-after : goal.returns-clause-after
returns-clause-after c =
    let has : c.parked_order-parked.result.reference ≡ c.args.reference = parked_has c.args.reference c.deref.result.now c.parked_order-parked.result c.parked_order-parked.ensures in
    rw (c.push_reserved.ensures.items, c.take_parked.ensures.items, c.live.ensures, c.new.ensures, has, c.self.view_is) refl
