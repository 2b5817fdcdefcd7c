use Rattle.ph_history.specs.Grammar.{told_by}
use Rattle.ph_replaying.specs.Commands.Outcome.{Whole, Faulty}
use Rattle.ph_replaying.proofs.commands.run_replay.Goals as goal

pub returns-in-Ok : goal.returns-in-Ok
returns-in-Ok g c = record {
  outcome = Whole (told_by c.in-Ok.replayed.book.setup c.in-Ok.replayed.book.history);
  given = c.in-Ok.ensures.whole;
  wrote = c.tell-status.ensures;
}

pub returns-in-Err : goal.returns-in-Err
returns-in-Err g c = record {
  outcome = Faulty c.in-Err.fault;
  given = c.in-Err.ensures.faulty;
  wrote = c.refuse.ensures;
}
