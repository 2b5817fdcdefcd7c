use Rattle.ph_courier.proofs.CallLemmas.{unreached_why, never_dropped}
use Rattle.ph_courier.proofs.call.deliver.Goals as goal

pub returns-clause-unreached : goal.returns-clause-unreached
returns-clause-unreached g c = λ same. unreached_why c.send.ensures same

pub returns-clause-kept : goal.returns-clause-kept
returns-clause-kept g c = never_dropped c.send.ensures
