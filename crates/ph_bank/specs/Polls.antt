-- The answer of a poll as that of its ask.
use Rattle.std.specs.Prelude.{Result, Ok, Err}
use Rattle.ph_base.specs.declared.acquirer.Ruling.{Ruling}
use Rattle.ph_bank.specs.declared.asking.Asked.{Asked}
use Rattle.ph_bank.specs.declared.asking.Asked.TheVariants as asked
use Rattle.ph_bank.specs.declared.asking.AskFailed.{AskFailed}
use Rattle.futures.specs.declared.task.Poll.{Poll}
use Rattle.futures.specs.declared.task.Poll.TheVariants.{Pending, Ready}

-- the ask that a poll answers so: pending exactly where the ask was
abbrev pub answer_of : Poll (Result Ruling AskFailed) → Result Asked AskFailed
answer_of Pending = Ok asked.Pending
answer_of (Ready (Ok ruling)) = Ok (asked.Ruled ruling)
answer_of (Ready (Err failed)) = Err failed
