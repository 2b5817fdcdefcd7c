use Rattle.std.proofs.Common.{◌≡◌, drop}
use Rattle.ph_kinds.specs.Kept.{with_keys}
use Rattle.ph_kinds.proofs.kept.set_keys.Given as goal

abbrev pub invariant-loop-key : goal.invariant-loop-key
invariant-loop-key l = with_keys l.metadata (drop l.key-index l.named) ≡ with_keys l.fn.metadata l.named
