use Rattle.std.proofs.Common.{subst}
use Rattle.std.proofs.lemmas.Result.{err_from_is_err_and}
use Rattle.ph_io.specs.Writes.{Takes, TakesFront}
use Rattle.ph_io.proofs.DeviceLemmas.{front_of_more}
use Rattle.ph_book.specs.History.{view_of}
use Rattle.ph_drill.specs.declared.counts.Counts.{Counts}
use Rattle.ph_drill.specs.Summary.{balance_lines, count_lines, summary_of}
use Rattle.ph_drill.proofs.WriteLemmas.{writes_then, writes_err}
use Rattle.ph_drill.proofs.summary.write_summary.Goals as goal

pub returns-in_err-write_counts : goal.returns-in_err-write_counts
unfolding summary_of
returns-in_err-write_counts g c =
    let p = err_from_is_err_and c.from_residual.result c.from_residual.ensures.1 in
    writes_err _ p.0 p.1
    (front_of_more (balance_lines (view_of c.args.book.now.setup c.args.book.now.history))
    (subst (λ (counts : Counts). TakesFront (g.K.Sink.sink c.args.sink.now) (g.K.Sink.sink c.write_counts.new.sink) (count_lines counts))
    c.count_all.ensures c.in_err-write_counts.ensures))

pub returns : goal.returns
unfolding summary_of
returns g c =
    writes_then _ _ c.write_balances.result
    (subst (λ (counts : Counts). Takes (g.K.Sink.sink c.args.sink.now) (g.K.Sink.sink c.write_counts.new.sink) (count_lines counts))
    c.count_all.ensures c.in_ok-write_counts.ensures) c.write_balances.ensures
