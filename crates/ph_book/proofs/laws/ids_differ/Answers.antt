use Rattle.ph_book.proofs.LawLemmas.{legal_ids}
use Rattle.ph_book.proofs.laws.ids_differ.Goals as goal

pub returns : goal.returns
returns c = legal_ids c.args.setup.now c.args._history.now c.few_entries.ensures c.requires
