use Rattle.std.proofs.Common.{arith}
use Rattle.ph_http.proofs.DigitLemmas.{step_number, step_digits, whole_number}
use Rattle.ph_http.proofs.length.capped.Goals as goal

pub loop-digit-preserved : goal.loop-digit-preserved
loop-digit-preserved c =
    let text = c.args.digits.now in
    let i = c.loop-digit.digit-index in
    record {
      few = omega arith;
      number = rw c.min-number.ensures (step_number text i c.loop-digit.number _ c.loop-digit-test.true c.loop-digit.invariant.number);
      digits = step_digits text i c.loop-digit-test.true c.loop-digit.invariant.digits;
    }

pub returns : goal.returns
returns c = whole_number c.args.digits.now c.loop-digit.digit-index c.loop-digit.number (omega arith) c.loop-digit.invariant.few c.loop-digit.invariant.number
