use Rattle.ph_http.proofs.CallLemmas.{items_given, items_rest}
use Rattle.ph_http.proofs.laws.items_are_given.Goals as goal

pub returns-clause-front : goal.returns-clause-front
returns-clause-front c = items_given

pub returns-clause-rest : goal.returns-clause-rest
returns-clause-rest c = items_rest
