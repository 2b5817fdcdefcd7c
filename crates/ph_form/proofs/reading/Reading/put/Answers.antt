use Rattle.std.proofs.Common.{◌∙◌, ap, map}
use Rattle.ph_form.specs.Entries.{leaf_of}
use Rattle.ph_form.specs.Index.{leaves_in}
use Rattle.ph_form.specs.Order.{put}
use Rattle.ph_form.proofs.MapLemmas.{leaves_put, length_put_most, IsIndex-put}
use Rattle.ph_form.proofs.Utf8Lemmas.{both_utf8}
use Rattle.ph_form.proofs.reading.Reading.put.Goals as goal

pub returns-clause-leaves : goal.returns-clause-leaves
returns-clause-leaves c =
    leaves_put c.note_above.new.self.leaves c.insert.new.self c.into_vec.result c.in_ok-text.text c.args.name c.args.text.now
    c.in_ok-insert.ensures.entries c.into_vec.ensures c.in_ok-text.ensures.items
    ∙ ap (λ m. put (record { name = c.args.name; text = c.args.text.now }) (map leaf_of m.entries)) c.in_ok-note_above.ensures.leaves

pub returns-clause-index : goal.returns-clause-index
returns-clause-index c =
    IsIndex-put c.args.self.now _ (record { name = c.args.name; text = c.args.text.now }) c.requires.index (both_utf8 c.args.name c.args.text.now c.requires.name c.requires.text) (returns-clause-leaves c)
    (rw c.as_slice.ensures at c.in_ok-note_above.ensures.maps) c.in_ok-note_above.ensures.next

pub returns-clause-count : goal.returns-clause-count
returns-clause-count c =
    let e = returns-clause-leaves c in
    rw e (length_put_most (record { name = c.args.name; text = c.args.text.now }) (leaves_in c.args.self.now))
