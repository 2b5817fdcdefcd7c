use Rattle.std.proofs.Common.{◌≡◌, map, take}
use Rattle.ph_json.specs.declared.doc.Doc.TheVariants.{Text}
use Rattle.ph_views.proofs.values.texts.Given as goal

abbrev pub invariant-loop-pair : goal.invariant-loop-pair
invariant-loop-pair l = l.members ≡ map (λ pair. (pair.key, Text pair.value)) (take l.pair-index l.pair-items)
