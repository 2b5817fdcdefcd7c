use Rattle.ph_form.proofs.OrderLaw.{any_order}
use Rattle.ph_form.proofs.TreeLaw.{tree_read}
use Rattle.ph_form.proofs.read.read_form.Goals as goal

pub returns-clause-tree : goal.returns-clause-tree
returns-clause-tree c = tree_read c.args.query.now c.args.body.now c.read_pairs.result c.read_pairs.ensures.form

pub returns-clause-any_order : goal.returns-clause-any_order
returns-clause-any_order c = any_order c.args.query.now c.args.body.now c.read_pairs.result c.read_pairs.ensures.form
