use Rattle.ph_book.proofs.KeyLawLemmas.{key_adds_none}
use Rattle.ph_book.proofs.key_laws.key_adds_none.Goals as goal

pub returns : goal.returns
returns c = key_adds_none c.args.setup.now c.few_entries.ensures
