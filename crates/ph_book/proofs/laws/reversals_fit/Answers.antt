use Rattle.ph_book.specs.History.{view_of}
use Rattle.ph_book.proofs.MoneyLemmas.{sound_reversals}
use Rattle.ph_book.proofs.StandLemmas.{history_sound}
use Rattle.ph_book.proofs.laws.reversals_fit.Goals as goal

pub returns : goal.returns
returns c = sound_reversals (view_of c.args.setup.now c.args._history.now) (history_sound c.args.setup.now c.args._history.now c.few_entries.ensures c.requires)
