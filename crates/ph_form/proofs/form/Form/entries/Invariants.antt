use Rattle.std.proofs.Common.{◌≡◌, map, drop, true}
use Rattle.std.specs.List.{list_all}
use Rattle.ph_form.specs.Entries.{leaf_of}
use Rattle.ph_form.specs.Order.{is_leaf_utf8}
use Rattle.ph_form.specs.Readers.{entries_at, entries_with}
use Rattle.ph_form.proofs.form.Form.entries.Given as goal

abbrev pub invariant-loop-leaf : goal.invariant-loop-leaf
invariant-loop-leaf l =
    (entries_with (map leaf_of l.entries.entries) l.name (drop l.leaf-index l.leaves) ≡ entries_at l.name l.leaves)
    × (list_all is_leaf_utf8 (map leaf_of l.entries.entries) ≡ true)
