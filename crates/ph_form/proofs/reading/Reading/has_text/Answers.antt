use Rattle.std.proofs.Common.{◌∙◌}
use Rattle.ph_form.proofs.IndexLemmas.{text_here}
use Rattle.ph_form.proofs.reading.Reading.has_text.Goals as goal

pub returns : goal.returns
returns c = c.contains_key.ensures ∙ text_here c.args.name.now c.args.self.now.leaves.entries
