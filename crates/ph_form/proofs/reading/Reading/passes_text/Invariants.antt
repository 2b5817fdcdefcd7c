use Rattle.std.proofs.Common.{◌≡◌, take}
use Rattle.std.specs.List.{list_any}
use Rattle.ph_form.specs.Index.{leaves_in}
use Rattle.ph_form.specs.Names.{is_below}
use Rattle.ph_form.proofs.reading.Reading.passes_text.Given as goal

abbrev pub invariant-loop-i : goal.invariant-loop-i
invariant-loop-i l = l.passes ≡ list_any (λ leaf. is_below leaf.name (take l.i l.name)) (leaves_in l.self)
