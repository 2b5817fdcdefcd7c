use Rattle.std.proofs.Common.{decimal, codes}
use Rattle.std.proofs.lemmas.Result.{err_from_is_err_and}
use Rattle.ph_io.proofs.DeviceLemmas.{front_of_more}
use Rattle.ph_drill.proofs.LineLemmas.{count_words, word_and, writes_as}
use Rattle.ph_drill.proofs.WriteLemmas.{writes_then, writes_err}
use Rattle.ph_drill.proofs.lines.write_count.Goals as goal

pub returns-in_err-write_word : goal.returns-in_err-write_word
returns-in_err-write_word g c =
    let p = err_from_is_err_and c.from_residual.result c.from_residual.ensures.1 in
    writes_as _ _ _ _ c.from_residual.result (count_words c.args.word.now c.args.number)
    (writes_err _ p.0 p.1 (front_of_more (word_and (decimal c.args.number) (codes "\n")) c.in_err-write_word.ensures))

pub returns : goal.returns
returns g c =
    writes_as _ _ _ _ c.write_number.result (count_words c.args.word.now c.args.number)
    (writes_then _ _ c.write_number.result c.in_ok-write_word.ensures c.write_number.ensures)
