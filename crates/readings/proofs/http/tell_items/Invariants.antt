use Rattle.std.proofs.Common.{◌≡◌}
use Rattle.readings.proofs.http.tell_items.Given as goal

-- no item tells the end
abbrev pub invariant-loop : goal.invariant-loop
invariant-loop l = l.talk.ended ≡ l.fn.talk.ended
