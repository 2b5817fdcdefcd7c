use Rattle.std.proofs.Common.{ap, ◌∙◌, refl}
use Rattle.ph_json.specs.declared.doc.Doc.TheVariants.{Object}
use Rattle.ph_views.specs.Disputes.{evidence_doc}
use Rattle.ph_views.proofs.disputes.evidence.Goals as goal

pub returns : goal.returns
unfolding evidence_doc
returns c = c.done.ensures ∙ ap Object (c.in_ok-text_or_null.ensures.ok ∙ rw c.new-members.ensures refl)
