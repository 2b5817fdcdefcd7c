use Rattle.ph_http.proofs.DigitLemmas.{same_digits}
use Rattle.ph_http.proofs.length.agree.Goals as goal

pub returns : goal.returns
returns c = rw (c.eq.ensures, c.significant.ensures, c.significant-2.ensures) (same_digits c.args.a.now c.args.b.now c.requires.a c.requires.b)
