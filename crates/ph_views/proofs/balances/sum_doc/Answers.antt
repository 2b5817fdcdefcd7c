use Rattle.std.specs.Prelude.{ℤ, [], ◌∷◌, codes}
use Rattle.std.proofs.Common.{ap, ◌∙◌, w64}
use Rattle.std.proofs.lemmas.Int.{to_z-of_z}
use Rattle.ph_money.specs.Currencies.{code_of}
use Rattle.ph_json.specs.declared.doc.Doc.TheVariants.{Number, Text, Object}
use Rattle.ph_views.specs.Balances.{sum_doc}
use Rattle.ph_views.proofs.balances.sum_doc.Goals as goal

pub returns : goal.returns
unfolding sum_doc
returns c =
    c.done.ensures
    ∙ ap Object
    (c.in_ok-text.ensures.ok
    ∙ rw (c.in_ok-number.ensures.ok, c.new-members.ensures, c.code.ensures)
    (ap (λ (sum : ℤ). (codes "amount", Number sum) ∷ (codes "currency", Text (code_of c.args.currency)) ∷ []) (to_z-of_z w64 c.args.sum c.ranges.sum)))
