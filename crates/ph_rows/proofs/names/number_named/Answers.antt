use Rattle.std.proofs.Common.{sym, ap, ◌∙◌}
use Rattle.ph_rows.specs.Names.{number_named}
use Rattle.ph_rows.proofs.NameLemmas.{kind_numbered, names_number, names_none, names_another}
use Rattle.ph_rows.proofs.names.number_named.Goals as goal

pub returns-then-kind_number : goal.returns-then-kind_number
returns-then-kind_number c =
    let named = names_number c.args.text.now c.in-Some.id c.in-Some.ensures.found in
    let number = sym c.kind_number.ensures ∙ c.if-kind_number.true ∙ c.kind_number-in-Some.ensures in
    sym named ∙ ap (λ k. number_named k c.args.text.now) (kind_numbered c.in-Some.id.kind c.args.kind number)

pub returns-else-kind_number : goal.returns-else-kind_number
returns-else-kind_number c =
    names_another c.args.kind c.args.text.now c.in-Some.id
    (λ same. c.if-kind_number.false (c.kind_number.ensures ∙ same ∙ sym c.kind_number-in-Some.ensures)) c.in-Some.ensures.only

pub returns-in-None : goal.returns-in-None
returns-in-None c = names_none c.args.kind c.args.text.now (λ i is same. let none = c.in-None.ensures.only i same in absurd (cc))
