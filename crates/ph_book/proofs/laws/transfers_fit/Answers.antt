use Rattle.ph_book.specs.History.{view_of}
use Rattle.ph_book.proofs.MoneyLemmas.{sound_transfers}
use Rattle.ph_book.proofs.StandLemmas.{history_sound}
use Rattle.ph_book.proofs.laws.transfers_fit.Goals as goal

pub returns : goal.returns
returns c = sound_transfers (view_of c.args.setup.now c.args._history.now) (history_sound c.args.setup.now c.args._history.now c.few_entries.ensures c.requires)
