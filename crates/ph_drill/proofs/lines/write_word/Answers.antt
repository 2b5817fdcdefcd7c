use Rattle.std.proofs.lemmas.Result.{err_from_is_err_and}
use Rattle.ph_io.proofs.DeviceLemmas.{front_of_more}
use Rattle.ph_drill.proofs.WriteLemmas.{writes_then, writes_err, writes_all}
use Rattle.ph_drill.proofs.lines.write_word.Goals as goal

pub returns-in_err-write_all : goal.returns-in_err-write_all
returns-in_err-write_all g c =
    let p = err_from_is_err_and c.from_residual.result c.from_residual.ensures.1 in
    writes_err _ p.0 p.1 (front_of_more c.args.behind.now c.in_err-write_all.ensures.front)

pub returns : goal.returns
returns g c =
    writes_then _ _ c.write_all-2.result c.in_ok-write_all.ensures.all
    (writes_all _ _ _ c.write_all-2.result c.write_all-2.ensures.all c.write_all-2.ensures.front)
