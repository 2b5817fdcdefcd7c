use Rattle.std.proofs.Common.{◌≡◌, ◌-◌, ◌∙◌, arith}
use Rattle.std.proofs.lemmas.List.{length-set}
use Rattle.ph_base.specs.Numbers.{padded}
use Rattle.ph_base.proofs.DecimalLemmas.{padded_step}
use Rattle.ph_base.proofs.numbers.sixteen_digits.Goals as goal

pub loop-i-preserved : goal.loop-i-preserved
loop-i-preserved c = record {
  within = omega arith;
  room = length-set c.loop-i.bytes (c.loop-i.i - 1) _ ∙ c.loop-i.invariant.room;
  digits = padded_step c.loop-i.bytes c.loop-i.i _ c.loop-i.rest (omega arith) (omega arith) (omega arith) c.loop-i.invariant.digits;
}

pub returns : goal.returns
unfolding padded
returns c = let z : c.loop-i.i ≡ 0 = omega arith in let h = c.loop-i.invariant.digits in rw z at h
