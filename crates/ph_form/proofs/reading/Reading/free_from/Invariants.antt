use Rattle.std.proofs.Common.{◌-◌, ◌≤◌, length}
use Rattle.ph_form.specs.Index.{AreTaken, leaves_in}
use Rattle.ph_form.proofs.reading.Reading.free_from.Given as goal

abbrev pub invariant-numbers : goal.invariant-numbers
invariant-numbers l = AreTaken (leaves_in l.self) l.beginning l.n × (l.n ≤ length (leaves_in l.self))

abbrev pub decreases-numbers : goal.decreases-numbers
decreases-numbers l = l.most - l.n
