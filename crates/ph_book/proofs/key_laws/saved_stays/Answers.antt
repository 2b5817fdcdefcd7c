use Rattle.ph_book.proofs.KeyLawLemmas.{saved_stays}
use Rattle.ph_book.proofs.key_laws.saved_stays.Goals as goal

pub returns : goal.returns
returns c = saved_stays c.args.setup.now c.few_entries.ensures
