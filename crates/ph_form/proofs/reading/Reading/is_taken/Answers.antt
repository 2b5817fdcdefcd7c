use Rattle.std.proofs.Common.{◌∙◌, refl}
use Rattle.ph_form.specs.Index.{leaves_in}
use Rattle.ph_form.proofs.IndexLemmas.{any_within}
use Rattle.ph_form.proofs.reading.Reading.is_taken.Goals as goal

pub returns-then-has_text : goal.returns-then-has_text
returns-then-has_text c = rw (any_within c.args.name.now (leaves_in c.args.self.now), ← c.has_text.ensures, c.if-has_text.true) refl

pub returns-else-has_text : goal.returns-else-has_text
returns-else-has_text c = rw (any_within c.args.name.now (leaves_in c.args.self.now), ← c.has_text.ensures, c.if-has_text.false) (c.has_map.ensures ∙ c.requires.maps c.args.name.now)
