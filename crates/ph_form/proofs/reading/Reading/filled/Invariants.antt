use Rattle.std.proofs.Common.{◌≡◌, drop}
use Rattle.ph_form.specs.Index.{IsIndex, leaves_in}
use Rattle.ph_form.specs.Leaves.{filled}
use Rattle.ph_form.proofs.reading.Reading.filled.Given as goal

abbrev pub invariant-loop-key : goal.invariant-loop-key
invariant-loop-key l =
    (filled (leaves_in l.self) l.name (drop l.key-index l.keys) ≡ filled (leaves_in l.fn.self) l.fn.base l.keys)
    × (l.self.leaves ≡ l.fn.self.leaves) × IsIndex l.self
