use Rattle.std.proofs.Common.{ap, ◌∙◌, refl}
use Rattle.ph_json.specs.declared.doc.Doc.TheVariants.{Object}
use Rattle.ph_views.specs.Balances.{balance_doc}
use Rattle.ph_views.proofs.balances.balance_doc.Goals as goal

pub returns : goal.returns
unfolding balance_doc
returns g c =
    c.done.ensures
    ∙ ap Object
    (c.in_ok-put_sums-2.ensures.ok
    ∙ rw (c.in_ok-word.ensures.ok, c.in_ok-truth.ensures.ok, c.in_ok-put_sums.ensures.ok, c.new-members.ensures, c.as_slice-list.ensures.value, c.in_ok-currencies.ensures)
    refl)
