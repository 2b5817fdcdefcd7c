use Rattle.std.proofs.Common.{refl}
use Rattle.ph_io.proofs.DeviceLemmas.{takes_then_front}
use Rattle.ph_lines.proofs.WriteLemmas.{err_map}
use Rattle.ph_lines.proofs.writing.write_octets.Goals as goal

pub returns-clause-front : goal.returns-clause-front
returns-clause-front g c = err_map _ c.write_hex.ensures.front (λ front. takes_then_front c.in_ok-write_all.ensures.all front)
