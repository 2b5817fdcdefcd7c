use Rattle.ph_book.proofs.InUseLemmas.{conflict_while_a_run_lives}
use Rattle.ph_book.proofs.key_laws.conflict_while_a_run_lives.Goals as goal

pub returns : goal.returns
returns c = conflict_while_a_run_lives c.args.setup.now c.few_entries.ensures
