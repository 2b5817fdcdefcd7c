use Rattle.ph_history.proofs.GrammarLemmas.{fits_more}
use Rattle.ph_history.proofs.fits.entries_fit.Goals as goal

pub loop-entry-preserved : goal.loop-entry-preserved
loop-entry-preserved c =
    fits_more c.args.entries.now c.loop-entry.entry-index c.entry-item.result c.entry-item.is c.loop-entry-test.true c.loop-entry.invariant c.entry_fits.ensures
