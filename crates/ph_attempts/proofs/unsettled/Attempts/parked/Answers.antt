use Rattle.std.proofs.Common.{sym}
use Rattle.ph_attempts.proofs.ListLemmas.{first_has}
use Rattle.ph_attempts.proofs.unsettled.Attempts.parked.Goals as goal

pub returns-in-Some-clause-resumable : goal.returns-in-Some-clause-resumable
returns-in-Some-clause-resumable c =
    let found = rw (c.deref.ensures.value, c.self.view_is) at c.in-Some.ensures in
    rw c.reference.ensures (first_has c.args.self.now c.in-Some.attempt (sym found))
