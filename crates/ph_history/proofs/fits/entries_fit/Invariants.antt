use Rattle.std.proofs.Common.{take}
use Rattle.ph_history.specs.Reading.{AllFit}
use Rattle.ph_history.proofs.fits.entries_fit.Given as goal

abbrev pub invariant-loop-entry : goal.invariant-loop-entry
invariant-loop-entry l = AllFit (take l.entry-index l.entries)
