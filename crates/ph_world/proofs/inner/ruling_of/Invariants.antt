use Rattle.std.proofs.Common.{◌≡◌, drop}
use Rattle.ph_bank.specs.Scripts.{ruling_of}
use Rattle.ph_world.proofs.inner.ruling_of.Given as goal

abbrev pub invariant-loop-decision : goal.invariant-loop-decision
invariant-loop-decision l = ruling_of (drop l.decision-index l.decisions) l.reference ≡ ruling_of l.decisions l.reference
