use Rattle.std.proofs.Common.{Err}
use Rattle.ph_host.specs.Runs.{new_book, session_limit}
use Rattle.ph_host.proofs.SetupLemmas.{new_legal}
use Rattle.ph_host.proofs.host.stdio.Goals as goal

pub returns-in-Err : goal.returns-in-Err
returns-in-Err g c = record {
  ending = Err c.serve_none.result;
  book = new_book c.args.words.now;
  status_is = c.status-in-Err.ensures;
  session = c.serve_none.ensures session_limit (new_book c.args.words.now) (g.A.Acquirer.link c.args.link.now) (g.P.Patience.counts c.args.patience.now) (g.S.Source.source c.args.input.now) (new_legal c.args.words.now);
}
