use Rattle.std.proofs.Common.{◌≡◌, ◌++◌, map, length}
use Rattle.form_urlencoded.specs.Parse.{raw_pairs_left}
use Rattle.ph_form.specs.Pairs.{pair_of, pairs_of, pair_bytes}
use Rattle.ph_form.proofs.pairs.add_pairs.Given as goal

abbrev pub invariant-pairs : goal.invariant-pairs
invariant-pairs l = map pair_bytes l.pairs.items ++ map pair_of (raw_pairs_left l.left) ≡ map pair_bytes l.fn.pairs.items ++ pairs_of l.input

abbrev pub decreases-pairs : goal.decreases-pairs
decreases-pairs l = length (raw_pairs_left l.left)
