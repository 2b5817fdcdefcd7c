use Rattle.std.proofs.Common.{◌∙◌, ap, map}
use Rattle.ph_form.specs.Entries.{leaf_of}
use Rattle.ph_form.specs.Names.{base_of}
use Rattle.ph_form.specs.Order.{is_leaf_utf8}
use Rattle.ph_form.specs.Readers.{entry_of, rest_after}
use Rattle.ph_form.proofs.MapLemmas.{all_put, leaves_put}
use Rattle.ph_form.proofs.Utf8Lemmas.{entry_utf8}
use Rattle.ph_form.proofs.entries.add_entry.Goals as goal

pub returns-clause-entries : goal.returns-clause-entries
returns-clause-entries c =
    leaves_put c.args.entries.now c.insert.new.self c.in_ok-key.key c.in_ok-text.text
    (base_of (rest_after c.args.upper.now c.args.leaf.now.name)) c.args.leaf.now.text c.in_ok-insert.ensures.entries
    (c.in_ok-key.ensures.items ∙ c.base.ensures ∙ ap base_of (c.rest_after.ensures ∙ ap (rest_after c.args.upper.now) c.as_slice.ensures))
    (c.in_ok-text.ensures.items ∙ c.as_slice-2.ensures)

pub returns-clause-utf8 : goal.returns-clause-utf8
returns-clause-utf8 c =
    let e = returns-clause-entries c in
    rw e (all_put is_leaf_utf8 (entry_of c.args.upper.now c.args.leaf.now) (map leaf_of c.args.entries.now.entries)
    (entry_utf8 c.args.upper.now c.args.leaf.now c.requires.below c.requires.utf8) c.requires.so_far)
