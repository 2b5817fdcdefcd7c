use Rattle.std.proofs.Common.{subst, sym, ap, ◌∙◌}
use Rattle.ph_lock.specs.Histories.{AllBelow}
use Rattle.ph_lock.specs.Tallies.{caller_of, top_of}
use Rattle.ph_lock.proofs.TallyLemmas.{all_below}
use Rattle.ph_lock.proofs.tally.TallyObject.callers.Goals as goal

pub returns-clause-above : goal.returns-clause-above
returns-clause-above c =
    let entries = c.args.self.now.entries in
    subst (λ n. AllBelow caller_of n entries) (sym (c.self.invariant.top_is ∙ ap (λ t. top_of t.entries) c.self.view_is)) (all_below entries)
