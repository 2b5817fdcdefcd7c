use Rattle.std.proofs.Common.{◌≡◌, ◌≤◌, length, map, drop, Ok}
use Rattle.ph_form.specs.Pairs.{pair_bytes, pairs_in}
use Rattle.ph_form.specs.Leaves.{leaves_from, leaves_of}
use Rattle.ph_form.specs.Index.{IsIndex, leaves_in}
use Rattle.ph_form.proofs.read.read_pairs.Given as goal

abbrev pub invariant-loop-i : goal.invariant-loop-i
invariant-loop-i l =
    (leaves_from l.i (Ok (leaves_in l.reading)) (map pair_bytes (drop l.i l.pairs.items)) ≡ leaves_of (pairs_in l.query l.body)) × IsIndex l.reading × (length (leaves_in l.reading) ≤ l.i)
