use Rattle.std.proofs.Common.{◌≡◌, ◌≤◌, length, drop}
use Rattle.ph_form.specs.Names.{is_below}
use Rattle.ph_form.proofs.names.is_below.Given as goal

abbrev pub invariant-loop-i : goal.invariant-loop-i
invariant-loop-i l = (is_below (drop l.i l.upper) (drop l.i l.name) ≡ is_below l.upper l.name) × (l.i ≤ length l.name)
