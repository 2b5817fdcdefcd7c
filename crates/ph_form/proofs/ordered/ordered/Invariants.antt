use Rattle.std.proofs.Common.{◌≡◌, ◌++◌, map}
use Rattle.ph_form.specs.Entries.{leaf_of}
use Rattle.ph_form.proofs.ordered.ordered.Given as goal

abbrev pub invariant-loop-name : goal.invariant-loop-name
invariant-loop-name l = l.leaves.items ++ map leaf_of l.name-iterator ≡ map leaf_of l.fn.entries.entries
