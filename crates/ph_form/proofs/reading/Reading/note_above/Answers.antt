use Rattle.std.proofs.Common.{refl, ◌∙◌, rules}
use Rattle.ph_form.specs.Index.{has_map}
use Rattle.ph_form.proofs.IndexLemmas.{noted_more, nothing_above_empty}
use Rattle.ph_form.proofs.reading.Reading.note_above.Goals as goal

pub loop-i-init : goal.loop-i-init
loop-i-init c = (refl, (λ q. nothing_above_empty (has_map c.args.self.now q) q), (λ q. refl))

pub loop-i-preserved : goal.loop-i-preserved
loop-i-preserved c = (
  c.in_ok-note_at.ensures.leaves ∙ c.loop-i.invariant.0,
  (λ q. c.in_ok-note_at.ensures.maps q
      ∙ noted_more (has_map c.args.self.now q) (has_map c.loop-i.self q) q c.args.name.now c.loop-i.i (search rules) (c.loop-i.invariant.1 q)),
  (λ q. c.in_ok-note_at.ensures.next q ∙ c.loop-i.invariant.2 q),
)
