use Rattle.std.proofs.Common.{refl}
use Rattle.ph_history.specs.Grammar.{told_by}
use Rattle.ph_history.proofs.TextLemmas.{written_is_text}
use Rattle.ph_history.proofs.fits.what_is_written_is_read.Goals as goal

pub returns : goal.returns
returns c =
    written_is_text _ (told_by c.args.setup.now c.args.entries.now)
    (record { text = refl; short = c.requires; fits = c.history_fits.ensures; count = c.number_fits.ensures })
