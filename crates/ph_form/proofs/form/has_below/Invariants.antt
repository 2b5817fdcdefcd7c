use Rattle.std.proofs.Common.{◌≡◌, drop}
use Rattle.std.specs.List.{list_any}
use Rattle.ph_form.specs.Names.{is_below}
use Rattle.ph_form.proofs.form.has_below.Given as goal

abbrev pub invariant-loop-leaf : goal.invariant-loop-leaf
invariant-loop-leaf l = list_any (λ leaf. is_below l.name leaf.name) (drop l.leaf-index l.leaves) ≡ list_any (λ leaf. is_below l.name leaf.name) l.leaves
