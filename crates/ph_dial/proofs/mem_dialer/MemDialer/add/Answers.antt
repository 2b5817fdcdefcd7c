use Rattle.std.proofs.Common.{◌≡◌, ◌+◌, ◌≤◌, [], ◌∷◌, ◌++◌, length, rules}
use Rattle.std.proofs.lemmas.List.Elements.{All-push}
use Rattle.std.specs.Vec.{vec_capacity}
use Rattle.ph_dial.specs.MemDialers.{IsUnused}
use Rattle.ph_dial.proofs.mem_dialer.MemDialer.add.Goals as goal

pub invariant_of-self-2 : goal.invariant_of-self-2
invariant_of-self-2 c =
    let waiting = c.self.inside.waiting.items in
    let pushed : c.push_back.new.self.items ≡ waiting ++ c.args.far ∷ [] =
    c.in_ok-push_back.ensures.items in
    let short : length c.push_back.new.self.items + length c.reserve.new.self.items ≤ c.in-Some.added =
    search rules in
    let room : c.in-Some.added ≤ vec_capacity c.reserve.new.self = search rules in
    (short, room, rw pushed (All-push IsUnused _ _ c.self.invariant.2 c.requires))
