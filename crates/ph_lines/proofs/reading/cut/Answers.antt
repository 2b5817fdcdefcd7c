use Rattle.std.proofs.Common.{◌+◌}
use Rattle.std.proofs.lemmas.List.{take_rest}
use Rattle.ph_lines.proofs.SplitLemmas.{cut_found}
use Rattle.ph_lines.proofs.reading.cut.Goals as goal

pub returns-in-Some : goal.returns-in-Some
returns-in-Some c = rw (take_rest c.args.line.now (c.in-Some.at + 1)) (cut_found _ _ c.in-Some.ensures)
