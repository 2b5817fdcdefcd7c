use Rattle.std.proofs.Common.{ap, inl, refl}
use Rattle.ph_lock.proofs.lock.Lock.look.Goals as goal

pub leave-requires-clause-history : goal.leave-requires-clause-history
leave-requires-clause-history g c =
    let entered = c.enter-object.ensures.entered in
    (entered.0, g.O.Object.history c.enter-object.result, ap (λ m. m.0.stage) entered.1, inl refl)
