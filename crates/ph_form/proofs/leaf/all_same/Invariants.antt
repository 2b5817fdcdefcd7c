use Rattle.std.proofs.Common.{◌≡◌, ◌&&◌, bytes_eq, drop}
use Rattle.std.specs.Cmp.Lexicographic.{pointwise}
use Rattle.ph_form.specs.declared.leaf.Leaf.{Leaf}
use Rattle.ph_form.proofs.leaf.all_same.Given as goal

abbrev pub invariant-loop-i : goal.invariant-loop-i
invariant-loop-i l =
    pointwise (λ (x y : Leaf). bytes_eq x.name y.name && bytes_eq x.text y.text) (drop l.i l.one) (drop l.i l.other)
    ≡ pointwise (λ (x y : Leaf). bytes_eq x.name y.name && bytes_eq x.text y.text) l.one l.other
