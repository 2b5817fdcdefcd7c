use Rattle.std.proofs.Common.{◌+◌, ◌*◌, ap, arith}
use Rattle.std.proofs.lemmas.Grind.{common_steps}
use Rattle.ph_base.proofs.DecimalLemmas.{read_stops, read_more, read_over, read_all}
use Rattle.ph_base.proofs.numbers.read_number.Goals as goal

pub returns-then-not-is_ascii_digit : goal.returns-then-not-is_ascii_digit
returns-then-not-is_ascii_digit c = read_stops _ _ c.loop-b.number c.loop-b-test.true c.loop-b.invariant cc

pub returns-then-number-digit : goal.returns-then-number-digit
returns-then-number-digit c = read_over _ _ c.loop-b.number c.loop-b-test.true c.loop-b.invariant (cc) (omega arith)

pub loop-b-preserved : goal.loop-b-preserved
loop-b-preserved c = read_more _ _ c.loop-b.number _ c.loop-b-test.true c.loop-b.invariant (cc) (ap (λ d. 10 * c.loop-b.number + d) c.from-digit.ensures)

pub returns : goal.returns
returns c = read_all _ c.loop-b.b-index _ (grind (arith, common_steps)) c.loop-b-test.false c.loop-b.invariant (omega arith)
