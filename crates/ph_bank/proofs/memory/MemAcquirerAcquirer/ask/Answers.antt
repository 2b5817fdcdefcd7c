use Rattle.std.proofs.Common.{◌<◌, ◌^◌, arith}
use Rattle.ph_bank.proofs.ScriptLemmas.{asks_on}
use Rattle.ph_bank.proofs.memory.MemAcquirerAcquirer.ask.Goals as goal

pub returns-clause-asks : goal.returns-clause-asks
returns-clause-asks c =
    let small : c.args.self.now.faults < 2 ^ 64 = rw (← c.self.view_is) (omega arith) in
    rw (c.answer_on.ensures.after, c.answer_on.ensures.answer) (asks_on c.cue-cue.result c.args.self.now c.args.order.now small)
