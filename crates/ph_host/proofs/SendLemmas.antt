-- Workers may go to other threads.
use denote.RattleType.{RattleType}
use denote.Param.Send.{IsSend, sendable, view_send}
use denote.Param.SendFields.{as_row_send, declared_send}
use denote.Struct.Field.{row_field}
use Rattle.std.proofs.Crossing.{crosses}
use Rattle.std.specs.contracts.option.Option as option
use Rattle.ph_lock.specs.declared.object.Object.{Ghosts}
use Rattle.ph_lock.proofs.pass.Pass.TheSendSync as pass
use Rattle.ph_lock.specs.contracts.pass.Pass as passes
use Rattle.ph_lock.specs.contracts.pass.PassView as view
use Rattle.ph_lock.specs.contracts.pass.PassView.TheInside as inside
use Rattle.ph_host.specs.contracts.workers.Worker.{the_row, the_type}

module _ (O Act Answer Query Seen Entry Deed Base : RattleType) (g : Ghosts O.Denot Act.Denot Answer.Denot Query.Denot Seen.Denot Entry.Denot Deed.Denot Base.Denot) where
  inside_send : IsSend (inside.the_row O Act Answer Query Seen Entry Deed Base g)
  inside_send = declared_send (inside.the_type O Act Answer Query Seen Entry Deed Base g) (search (sendable, crosses) depth 20, tt)

  view_sends : IsSend (view.the_row O Act Answer Query Seen Entry Deed Base g)
  view_sends = view_send _ _ _ _ _ inside_send

-- a worker may go to another thread where its gate, its link, its patience and the object of its pass may: what its pass showed last has no bytes
pub worker_sends : (G A P O Act Answer Query Seen Entry Deed Base : RattleType) (g : Ghosts O.Denot Act.Denot Answer.Denot Query.Denot Seen.Denot Entry.Denot Deed.Denot Base.Denot)
    → IsSend G → IsSend A → IsSend P → IsSend O → IsSend (the_row G A P O Act Answer Query Seen Entry Deed Base g)
worker_sends G A P O Act Answer Query Seen Entry Deed Base g gate link patience object =
    declared_send (the_type G A P O Act Answer Query Seen Entry Deed Base g) (
      as_row_send (row_field G) gate,
      (
        as_row_send (row_field A) link,
        (
          as_row_send (row_field P) patience,
          (
            as_row_send (option.the_field (passes.the_row O Act Answer Query Seen Entry Deed Base g)) (search (sendable, crosses, pass.the_send, object) depth 20),
            (
              as_row_send (option.the_field (view.the_row O Act Answer Query Seen Entry Deed Base g)) (search (sendable, crosses, view_sends) depth 20),
              (search (sendable, crosses) depth 20, tt),
            ),
          ),
        ),
      ),
    )
