use Rattle.ph_book.specs.History.{view_of}
use Rattle.ph_book.proofs.MoneyLemmas.{sound_amounts}
use Rattle.ph_book.proofs.StandLemmas.{history_sound}
use Rattle.ph_book.proofs.laws.amounts_are_sums.Goals as goal

pub returns : goal.returns
returns c = sound_amounts (view_of c.args.setup.now c.args._history.now) (history_sound c.args.setup.now c.args._history.now c.few_entries.ensures c.requires)
