use Rattle.std.proofs.Common.{arith}
use Rattle.ph_history.proofs.fits.bytes_fit.Goals as goal

pub returns : goal.returns
returns c i = let fits = c.type_inv._bytes i in omega (arith, fits)
