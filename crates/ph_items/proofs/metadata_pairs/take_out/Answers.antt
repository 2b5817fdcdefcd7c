use Rattle.std.proofs.Common.{rules}
use Rattle.std.proofs.lemmas.Fn.{filter_same}
use Rattle.ph_items.proofs.metadata_pairs.take_out.Goals as goal

pub returns : goal.returns
returns c = filter_same _ _ _ (λ pair answer after k. search rules) _ _ c.retain.ensures.filtered
