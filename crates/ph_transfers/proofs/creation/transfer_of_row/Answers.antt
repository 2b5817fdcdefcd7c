use Rattle.std.specs.Prelude.{codes}
use Rattle.std.specs.Option.{option_copied}
use Rattle.std.proofs.Common.{ap, sym, ◌∙◌, subst}
use Rattle.ph_facts.specs.Outcomes.{Outcome, IsRefusedBy}
use Rattle.ph_items.specs.Items.{charge_in}
use Rattle.ph_transfers.specs.Create.{transfer_of}
use Rattle.ph_transfers.specs.Found.{made_of, made_of_row}
use Rattle.ph_transfers.proofs.creation.transfer_of_row.Goals as goal

pub returns-in_default : goal.returns-in_default
returns-in_default c =
    subst (λ (outcome : Outcome). IsRefusedBy outcome c.args.batch.now c.no_such_object.result c.args.batch.now)
    (sym (ap (λ row. made_of_row (transfer_of c.args.call.now c.args.batch.now c.args.destination) charge_in
    (codes "source_transaction") (option_copied row)) c.in_default.is))
    (c.no_such_object.ensures c.args.batch.now)

pub returns-in-None : goal.returns-in-None
returns-in-None c =
    subst (λ (outcome : Outcome). IsRefusedBy outcome c.args.batch.now c.no_such_object-in-None.result c.args.batch.now)
    (sym (ap (λ row. made_of_row (transfer_of c.args.call.now c.args.batch.now c.args.destination) charge_in
    (codes "source_transaction") (option_copied row)) c.in-Some.is
    ∙ ap (made_of (transfer_of c.args.call.now c.args.batch.now c.args.destination) (codes "source_transaction") c.in-Some.row.now)
    (sym c.charge.ensures ∙ ap (λ found. option_copied found) c.in-None.is)))
    (c.no_such_object-in-None.ensures c.args.batch.now)
