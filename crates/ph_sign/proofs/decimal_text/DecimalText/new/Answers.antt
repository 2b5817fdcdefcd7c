use Rattle.std.proofs.Common.{refl, arith, ◌∙◌, lit<}
use Rattle.std.proofs.lemmas.Fmt.{decimal_nonempty, length-decimal-le}
use Rattle.std.proofs.lemmas.List.{length-set}
use Rattle.std.proofs.lemmas.Grind.{common_steps}
use Rattle.ph_sign.proofs.DecimalLemmas.{digit_written, digits_end, length-decimal_step}
use Rattle.ph_sign.proofs.decimal_text.DecimalText.new.Goals as goal

pub digits-init : goal.digits-init
digits-init c = record {
  width = refl;
  within = omega arith;
  smaller = omega arith;
  room = length-decimal-le 20 c.args.number (lit< tt) (omega arith) (omega arith);
  text = grind (arith, common_steps);
}

pub overflow_sub-start : goal.overflow_sub-start
overflow_sub-start c = omega (arith, decimal_nonempty c.digits.rest (omega arith))

pub digits-preserved : goal.digits-preserved
digits-preserved c =
    let longer = length-decimal_step c.digits.rest c.digits-test.true (omega arith) in
    let some = decimal_nonempty c.digits.rest (omega arith) in record {
      width = length-set _ _ _ ∙ c.digits.invariant.width;
      within = omega arith;
      smaller = omega arith;
      room = omega arith;
      text = digit_written c.digits.bytes c.digits.start c.args.number c.digits.rest c.digits-test.true (omega arith) (omega arith) (omega arith) c.digits.invariant.text;
    }

pub overflow_sub-start-2 : goal.overflow_sub-start-2
overflow_sub-start-2 c = omega (arith, decimal_nonempty c.digits.rest (omega arith))

pub returns : goal.returns
returns c =
    let some = decimal_nonempty c.digits.rest (omega arith) in
    digits_end c.digits.bytes c.digits.start c.args.number c.digits.rest (omega arith) (omega arith) (omega arith) c.digits.invariant.text
