use Rattle.std.proofs.Common.{codes, w64}
use Rattle.std.specs.Fmt.{signed_decimal}
use Rattle.std.proofs.lemmas.Int.{to_z-of_z}
use Rattle.std.proofs.lemmas.Result.{err_from_is_err_and}
use Rattle.ph_io.proofs.DeviceLemmas.{front_of_more, takes_then_front, takes_twice}
use Rattle.ph_drill.proofs.LineLemmas.{balance_words, word_and, writes_as}
use Rattle.ph_drill.proofs.WriteLemmas.{writes_then, writes_err}
use Rattle.ph_drill.proofs.lines.write_balance.Goals as goal

pub returns-in_err-write_word : goal.returns-in_err-write_word
returns-in_err-write_word g c =
    let p = err_from_is_err_and c.from_residual.result c.from_residual.ensures.1 in
    writes_as _ _ _ _ c.from_residual.result (balance_words c.args.account.now c.args.code.now c.args.available c.args.pending)
    (writes_err _ p.0 p.1
    (front_of_more (word_and (signed_decimal c.args.pending) (codes "\n"))
    (front_of_more (word_and (signed_decimal c.args.available) (codes " "))
    (front_of_more (word_and c.args.code.now (codes " "))
    (front_of_more (word_and c.args.account.now (codes " ")) c.in_err-write_word.ensures)))))

pub returns-in_err-write_word-2 : goal.returns-in_err-write_word-2
returns-in_err-write_word-2 g c =
    let p = err_from_is_err_and c.from_residual-in_err-write_word-2.result c.from_residual-in_err-write_word-2.ensures.1 in
    writes_as _ _ _ _ c.from_residual-in_err-write_word-2.result (balance_words c.args.account.now c.args.code.now c.args.available c.args.pending)
    (writes_err _ p.0 p.1
    (front_of_more (word_and (signed_decimal c.args.pending) (codes "\n"))
    (front_of_more (word_and (signed_decimal c.args.available) (codes " "))
    (front_of_more (word_and c.args.code.now (codes " "))
    (takes_then_front c.in_ok-write_word.ensures c.in_err-write_word-2.ensures)))))

pub returns-in_err-write_word-3 : goal.returns-in_err-write_word-3
returns-in_err-write_word-3 g c =
    let p = err_from_is_err_and c.from_residual-in_err-write_word-3.result c.from_residual-in_err-write_word-3.ensures.1 in
    writes_as _ _ _ _ c.from_residual-in_err-write_word-3.result (balance_words c.args.account.now c.args.code.now c.args.available c.args.pending)
    (writes_err _ p.0 p.1
    (front_of_more (word_and (signed_decimal c.args.pending) (codes "\n"))
    (front_of_more (word_and (signed_decimal c.args.available) (codes " "))
    (takes_then_front (takes_twice c.in_ok-write_word.ensures c.in_ok-write_word-2.ensures) c.in_err-write_word-3.ensures))))

pub returns-in_err-write_number : goal.returns-in_err-write_number
returns-in_err-write_number g c =
    let p = err_from_is_err_and c.from_residual-in_err-write_number.result c.from_residual-in_err-write_number.ensures.1 in
    let available = to_z-of_z w64 c.args.available c.ranges.available in
    let last = rw available at c.in_err-write_number.ensures in
    writes_as _ _ _ _ c.from_residual-in_err-write_number.result (balance_words c.args.account.now c.args.code.now c.args.available c.args.pending)
    (writes_err _ p.0 p.1
    (front_of_more (word_and (signed_decimal c.args.pending) (codes "\n"))
    (takes_then_front (takes_twice (takes_twice c.in_ok-write_word.ensures c.in_ok-write_word-2.ensures) c.in_ok-write_word-3.ensures) last)))

pub returns : goal.returns
returns g c =
    let available = to_z-of_z w64 c.args.available c.ranges.available in
    let pending = to_z-of_z w64 c.args.pending c.ranges.pending in
    let fourth = rw available at c.in_ok-write_number.ensures in
    let last = rw pending at c.write_number-2.ensures in
    writes_as _ _ _ _ c.write_number-2.result (balance_words c.args.account.now c.args.code.now c.args.available c.args.pending)
    (writes_then _ _ c.write_number-2.result
    (takes_twice (takes_twice (takes_twice c.in_ok-write_word.ensures c.in_ok-write_word-2.ensures) c.in_ok-write_word-3.ensures) fourth) last)
