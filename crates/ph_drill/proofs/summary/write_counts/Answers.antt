use Rattle.std.proofs.Common.{codes}
use Rattle.std.proofs.lemmas.Result.{err_from_is_err_and}
use Rattle.ph_io.proofs.DeviceLemmas.{front_of_more, takes_then_front, takes_twice}
use Rattle.ph_drill.specs.Lines.{count_line}
use Rattle.ph_drill.proofs.WriteLemmas.{writes_then, writes_err}
use Rattle.ph_drill.proofs.summary.write_counts.Goals as goal

pub returns-in_err-write_count : goal.returns-in_err-write_count
returns-in_err-write_count g c =
    let p = err_from_is_err_and c.from_residual.result c.from_residual.ensures.1 in
    writes_err _ p.0 p.1
    (front_of_more (count_line (codes "events") c.args.counts.now.events)
    (front_of_more (count_line (codes "rows") c.args.counts.now.rows)
    (front_of_more (count_line (codes "approved") c.args.counts.now.approved)
    (front_of_more (count_line (codes "attempts") c.args.counts.now.attempts)
    (front_of_more (count_line (codes "calls") c.args.counts.now.calls)
    c.in_err-write_count.ensures)))))

pub returns-in_err-write_count-2 : goal.returns-in_err-write_count-2
returns-in_err-write_count-2 g c =
    let p = err_from_is_err_and c.from_residual-in_err-write_count-2.result c.from_residual-in_err-write_count-2.ensures.1 in
    writes_err _ p.0 p.1
    (front_of_more (count_line (codes "events") c.args.counts.now.events)
    (front_of_more (count_line (codes "rows") c.args.counts.now.rows)
    (front_of_more (count_line (codes "approved") c.args.counts.now.approved)
    (front_of_more (count_line (codes "attempts") c.args.counts.now.attempts)
    (takes_then_front c.in_ok-write_count.ensures c.in_err-write_count-2.ensures)))))

pub returns-in_err-write_count-3 : goal.returns-in_err-write_count-3
returns-in_err-write_count-3 g c =
    let p = err_from_is_err_and c.from_residual-in_err-write_count-3.result c.from_residual-in_err-write_count-3.ensures.1 in
    writes_err _ p.0 p.1
    (front_of_more (count_line (codes "events") c.args.counts.now.events)
    (front_of_more (count_line (codes "rows") c.args.counts.now.rows)
    (front_of_more (count_line (codes "approved") c.args.counts.now.approved)
    (takes_then_front (takes_twice c.in_ok-write_count.ensures c.in_ok-write_count-2.ensures) c.in_err-write_count-3.ensures))))

pub returns-in_err-write_count-4 : goal.returns-in_err-write_count-4
returns-in_err-write_count-4 g c =
    let p = err_from_is_err_and c.from_residual-in_err-write_count-4.result c.from_residual-in_err-write_count-4.ensures.1 in
    writes_err _ p.0 p.1
    (front_of_more (count_line (codes "events") c.args.counts.now.events)
    (front_of_more (count_line (codes "rows") c.args.counts.now.rows)
    (takes_then_front (takes_twice (takes_twice c.in_ok-write_count.ensures c.in_ok-write_count-2.ensures) c.in_ok-write_count-3.ensures) c.in_err-write_count-4.ensures)))

pub returns-in_err-write_count-5 : goal.returns-in_err-write_count-5
returns-in_err-write_count-5 g c =
    let p = err_from_is_err_and c.from_residual-in_err-write_count-5.result c.from_residual-in_err-write_count-5.ensures.1 in
    writes_err _ p.0 p.1
    (front_of_more (count_line (codes "events") c.args.counts.now.events)
    (takes_then_front (takes_twice (takes_twice (takes_twice c.in_ok-write_count.ensures c.in_ok-write_count-2.ensures) c.in_ok-write_count-3.ensures) c.in_ok-write_count-4.ensures) c.in_err-write_count-5.ensures))

pub returns : goal.returns
returns g c =
    writes_then _ _ c.write_count-6.result
    (takes_twice (takes_twice (takes_twice (takes_twice c.in_ok-write_count.ensures c.in_ok-write_count-2.ensures) c.in_ok-write_count-3.ensures) c.in_ok-write_count-4.ensures) c.in_ok-write_count-5.ensures)
    c.write_count-6.ensures
