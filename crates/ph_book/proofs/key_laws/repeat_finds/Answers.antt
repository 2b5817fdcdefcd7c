use Rattle.ph_book.proofs.KeyLawLemmas.{repeat_finds}
use Rattle.ph_book.proofs.key_laws.repeat_finds.Goals as goal

pub returns : goal.returns
returns c = repeat_finds c.args.setup.now c.few_entries.ensures
