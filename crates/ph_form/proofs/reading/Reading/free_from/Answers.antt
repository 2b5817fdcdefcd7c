use Rattle.std.proofs.Common.{not, ap, ◌∙◌, arith}
use Rattle.std.proofs.lemmas.List.{length-map}
use Rattle.ph_form.specs.Entries.{leaf_of}
use Rattle.ph_form.specs.Index.{leaves_in}
use Rattle.ph_form.proofs.FreeLemmas.{least_here, least_last}
use Rattle.ph_form.proofs.reading.Reading.free_from.Goals as goal

pub returns-then-not-branch-clause-number : goal.returns-then-not-branch-clause-number
returns-then-not-branch-clause-number c =
    least_here (leaves_in c.args.self.now) c.args.beginning.now c.numbers.n c.numbers.invariant.0
    (omega (arith, length-map c.args.self.now.leaves.entries leaf_of)) (c.in_ok-is_number_taken.ensures ∙ ap not c.if-not-branch.true)

pub returns-clause-number : goal.returns-clause-number
returns-clause-number c =
    least_last (leaves_in c.args.self.now) c.args.beginning.now c.numbers.n c.numbers.invariant.0
    (omega (arith, length-map c.args.self.now.leaves.entries leaf_of))
