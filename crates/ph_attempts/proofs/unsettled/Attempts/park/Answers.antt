use Rattle.std.proofs.Common.{◌≡◌, true}
use Rattle.ph_attempts.specs.Attempts.{has_live}
use Rattle.ph_attempts.proofs.unsettled.Attempts.park.Goals as goal

pub push_reserved-requires : goal.push_reserved-requires
push_reserved-requires c =
    let live : has_live c.spend-flight.result c.self.inside.attempts.items ≡ true = rw (c.spend-flight.ensures, c.self.view_is) c.requires.live in
    c.take_live.ensures.room live
