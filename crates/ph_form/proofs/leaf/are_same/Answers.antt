use Rattle.ph_form.proofs.EntryLemmas.{same_leaves}
use Rattle.ph_form.proofs.leaf.are_same.Goals as goal

pub returns : goal.returns
returns c = same_leaves c.all_same.result c.args.one.now c.args.other.now c.all_same.ensures
