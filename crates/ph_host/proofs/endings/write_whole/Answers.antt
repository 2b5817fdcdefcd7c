use Rattle.ph_drill.proofs.WriteLemmas.{writes_then}
use Rattle.ph_drill.specs.Summary.{summary_of}
use Rattle.ph_host.proofs.endings.write_whole.Goals as goal

pub returns : goal.returns
returns g c =
    writes_then _ (summary_of c.args.book.now.setup c.args.book.now.history) c.write_summary.result c.in_ok-write_told.ensures c.write_summary.ensures
