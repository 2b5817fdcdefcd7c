use Rattle.std.proofs.Common.{◌≡◌, drop}
use Rattle.ph_intents.specs.Metadata.{with_changes}
use Rattle.ph_intents.proofs.metadata.change_keys.Given as goal

abbrev pub invariant-loop-key : goal.invariant-loop-key
invariant-loop-key l = with_changes l.metadata (drop l.key-index l.named) ≡ with_changes l.fn.metadata l.named
