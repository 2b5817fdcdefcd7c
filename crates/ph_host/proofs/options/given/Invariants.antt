use Rattle.std.proofs.Common.{◌≡◌, length}
use Rattle.ph_host.specs.Options.{given}
use Rattle.ph_host.proofs.options.given.Given as goal

abbrev pub invariant-loop-rest : goal.invariant-loop-rest
invariant-loop-rest l = given l.word l.rest ≡ given l.word l.words

abbrev pub decreases-loop-rest : goal.decreases-loop-rest
decreases-loop-rest l = length l.rest
