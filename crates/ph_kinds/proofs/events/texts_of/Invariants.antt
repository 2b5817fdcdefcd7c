use Rattle.std.proofs.Common.{◌≡◌, map}
use Rattle.ph_kinds.proofs.events.texts_of.Given as goal

abbrev pub invariant-loop-entry : goal.invariant-loop-entry
invariant-loop-entry l = l.texts.items ≡ map (λ entry. entry.text) l.yielded
