use Rattle.std.proofs.Common.{ap, sym, subst}
use Rattle.ph_facts.specs.Outcomes.{Outcome, IsRefusedBy}
use Rattle.ph_transfers.specs.Create.{transfer_by}
use Rattle.ph_transfers.proofs.creation.transfer_of.Goals as goal

pub returns-in-None : goal.returns-in-None
returns-in-None c =
    subst (λ (outcome : Outcome). IsRefusedBy outcome c.args.batch.now c.no_such_object.result c.args.batch.now)
    (sym (ap (transfer_by c.args.call.now c.args.batch.now c.args.destination c.args.row.now c.args.charge.now) c.in-None.is))
    (c.no_such_object.ensures c.args.batch.now)
