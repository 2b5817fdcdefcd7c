use Rattle.std.proofs.Common.{refl}
use Rattle.std.specs.Fmt.{digits}
use Rattle.hex.specs.Hex.{encode_with}
use Rattle.ph_history.specs.Text.{history_text, setup_line, entry_line, end_line}
use Rattle.ph_history.proofs.worked.a_create.Goals as goal

pub returns : goal.returns
unfolding history_text setup_line entry_line end_line encode_with digits
returns c = refl
