use Rattle.std.proofs.Common.{◌≡◌, bytes_eq, drop}
use Rattle.std.specs.List.{list_any}
use Rattle.ph_form.proofs.form.has_text.Given as goal

abbrev pub invariant-loop-leaf : goal.invariant-loop-leaf
invariant-loop-leaf l = list_any (λ leaf. bytes_eq leaf.name l.name) (drop l.leaf-index l.leaves) ≡ list_any (λ leaf. bytes_eq leaf.name l.name) l.leaves
