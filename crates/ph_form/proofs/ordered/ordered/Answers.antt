use Rattle.std.proofs.Common.{◌≡◌, sym, subst, rules, map}
use Rattle.ph_form.specs.Entries.{leaf_of}
use Rattle.ph_form.specs.Order.{IsInOrder}
use Rattle.ph_form.proofs.OrderLemmas.{entries_in_order}
use Rattle.ph_form.proofs.ordered.ordered.Goals as goal

pub returns-clause-order : goal.returns-clause-order
returns-clause-order c =
    let whole : c.loop-name.leaves.items ≡ map leaf_of c.args.entries.entries = search rules in
    subst IsInOrder (sym whole) (entries_in_order c.args.entries.entries c.into_iter-name-iterator.ensures.into_iter_gives.5)
