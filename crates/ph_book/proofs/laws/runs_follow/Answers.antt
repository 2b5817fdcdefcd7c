use Rattle.ph_book.proofs.RunLemmas.{runs_follow}
use Rattle.ph_book.proofs.laws.runs_follow.Goals as goal

pub returns : goal.returns
returns c = runs_follow c.args.setup.now c.args._history.now c.few_entries.ensures c.requires
