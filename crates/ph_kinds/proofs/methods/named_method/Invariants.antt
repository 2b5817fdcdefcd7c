use Rattle.std.proofs.Common.{◌≡◌, drop, map}
use Rattle.ph_kinds.specs.Methods.{first_named, named, named_methods}
use Rattle.ph_kinds.proofs.methods.named_method.Given as goal

abbrev pub invariant-loop-row : goal.invariant-loop-row
invariant-loop-row l = first_named l.text (map named (drop l.row-index l.methods)) ≡ first_named l.text named_methods
