use Rattle.std.proofs.Common.{ap, ◌∙◌, refl}
use Rattle.ph_json.specs.declared.doc.Doc.TheVariants.{Object}
use Rattle.ph_views.proofs.intents.to_destination.Goals as goal

pub returns : goal.returns
returns c = c.done.ensures ∙ ap Object (c.in_ok-put_id.ensures.ok ∙ rw c.new-members.ensures refl)
