use denote.Exit.{no}
use denote.Param.{param}
use denote.Param.Send.{arg_send, param_send}
use denote.Struct.Field.{bool-field}
use Rattle.ph_book.specs.contracts.acts.Act as act
use Rattle.ph_book.specs.contracts.acts.Query as query
use Rattle.std.proofs.Common.{sym}
use Rattle.ph_host.proofs.SendLemmas.{worker_sends}
use Rattle.ph_host.proofs.PairLemmas.{zip_from_changes}
use Rattle.ph_host.proofs.server.serve_all.Goals as goal

pub for_each_mut-requires-send-T : goal.for_each_mut-requires-send-T
for_each_mut-requires-send-T g c = λ κs lives.
    let sends = worker_sends (param 2 g.row.G) (param 3 g.row.A) (param 4 g.row.P) (param 1 g.row.O) act.the_row (param 5 g.row.O-Answer) query.the_row bool-field.row (param 6 g.row.O-Entry) (param 7 g.row.O-Deed)
    (param 8 g.row.O-Base) g.O.Object c.type_bounds.send-G c.type_bounds.send-A c.type_bounds.send-P c.type_bounds.send-O in
    param_send 1 _ (arg_send _ no _ sends)

pub returns-then-threads-gt0 : goal.returns-then-threads-gt0
returns-then-threads-gt0 g c = record {
  served = zip_from_changes _ _ _ (sym c.for_each_mut.auto.s)
      (λ i d inside. let e = c.for_each_mut.ensures i d inside in
      (e.1.argument.now, e.1.after_call.now, e.1.argument_is, e.1.left, e.1.call));
}
