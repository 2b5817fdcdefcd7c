use Rattle.std.proofs.Common.{rules}
use Rattle.ph_form.proofs.EntryLemmas.{text_utf8_at}
use Rattle.ph_form.proofs.form.text_in.Goals as goal

pub returns-then-eq-clause-utf8 : goal.returns-then-eq-clause-utf8
returns-then-eq-clause-utf8 c =
    rw c.as_slice-then-eq.ensures
    (text_utf8_at c.args.leaves.now c.loop-leaf.leaf-index c.leaf-item.result c.requires.utf8 (search rules) (search rules))
