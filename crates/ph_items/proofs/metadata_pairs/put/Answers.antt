use Rattle.std.proofs.Common.{◌≡◌, ◌∙◌, ap, arith}
use Rattle.std.specs.declared.cmp.Ordering.TheVariants.{Equal}
use Rattle.ph_items.specs.Metadata.{name_cmp, with_pair}
use Rattle.ph_items.proofs.MetadataLemmas.{replaced}
use Rattle.ph_items.proofs.metadata_pairs.put.Goals as goal

pub returns-in-Equal-clause-ok : goal.returns-in-Equal-clause-ok
returns-in-Equal-clause-ok c =
    let same : name_cmp c.args.new.key c.index.result.now.key ≡ Equal = cc in
    replaced c.args.new c.loop-place.pairs.items c.loop-place.place c.index.result.now (omega arith) c.index.ensures same c.loop-place.invariant.further ∙ ap (with_pair c.args.new) c.loop-place.invariant.same
