use Rattle.ph_replay.proofs.ReplayLemmas.{kept_in, opened}
use Rattle.ph_replay.proofs.replayed.Replayed.new.Goals as goal

pub invariant_of-result : goal.invariant_of-result
invariant_of-result c = kept_in _ _ _ _ _ _ c.new-2.ensures.items c.new-3.ensures.items (opened _ _ c.in_ok-new.ensures)
