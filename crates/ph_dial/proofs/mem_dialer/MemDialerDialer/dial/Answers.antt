use Rattle.std.proofs.Common.{◌≡◌, ◌∷◌, ap, length, arith}
use Rattle.std.proofs.lemmas.List.Elements.{All-rest}
use Rattle.ph_dial.specs.MemDialers.{IsUnused}
use Rattle.ph_dial.proofs.mem_dialer.MemDialerDialer.dial.Goals as goal

pub invariant_of-self-in-Some-1 : goal.invariant_of-self-in-Some-1
invariant_of-self-in-Some-1 c =
    let popped : c.self.inside.waiting.items ≡ c.in-Some.far ∷ c.pop_front.new.self.items = c.in-Some.ensures.items in
    let fewer = ap length popped in
    let room = c.self.invariant.0 in
    (omega arith, c.self.invariant.1, All-rest IsUnused c.in-Some.far c.pop_front.new.self.items c.self.inside.waiting.items popped c.self.invariant.2)
