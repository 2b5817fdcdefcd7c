use Rattle.std.proofs.Common.{ap, sym, subst}
use Rattle.ph_facts.specs.Outcomes.{Outcome, IsRefusedBy}
use Rattle.ph_transfers.specs.Create.{transfer_of, transfer_to}
use Rattle.ph_transfers.proofs.creation.transfer_to.Goals as goal

pub returns-in_default : goal.returns-in_default
returns-in_default g c =
    subst (λ (outcome : Outcome). IsRefusedBy outcome c.args.batch.now c.no_such_object.result c.args.batch.now)
    (sym (ap (transfer_to (transfer_of c.args.call.now c.args.batch.now) (g.V.View.state c.args.view.now).time
    (g.V.View.state c.args.view.now).rows c.args.call.now c.args.batch.now) c.in_default.is))
    (c.no_such_object.ensures c.args.batch.now)
