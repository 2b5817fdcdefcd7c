use Rattle.std.proofs.Common.{◌≡◌, ◌++◌, ◌∷◌, [], subst, sym}
use Rattle.ph_history.specs.Grammar.{told_by, CanBegin, part_lines}
use Rattle.ph_history.proofs.GrammarLemmas.{whole_refused}
use Rattle.ph_history.proofs.parts.add_line.Goals as goal

pub returns-clause-refused : goal.returns-clause-refused
returns-clause-refused c fits form begins =
    whole_refused (told_by c.in-Whole.field-0 c.in-Whole.field-1.items) c.args.line.now (rw c.in-Whole.is at begins)
