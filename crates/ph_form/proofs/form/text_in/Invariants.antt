use Rattle.std.proofs.Common.{◌≡◌, drop}
use Rattle.ph_form.specs.Readers.{text_at}
use Rattle.ph_form.proofs.form.text_in.Given as goal

abbrev pub invariant-loop-leaf : goal.invariant-loop-leaf
invariant-loop-leaf l = text_at l.name (drop l.leaf-index l.leaves) ≡ text_at l.name l.leaves
