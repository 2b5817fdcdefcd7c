use Rattle.std.proofs.Common.{◌≡◌, Some, None, ap, ◌∙◌}
use Rattle.std.specs.List.{position}
use Rattle.ph_idem.proofs.ListLemmas.{set_first, update_none}
use Rattle.ph_idem.specs.Records.{is_entry, update_first, with_reference}
use Rattle.ph_idem.proofs.records.Records.attach.Goals as goal

pub returns-in-Some : goal.returns-in-Some
returns-in-Some c =
    let found : Some c.in-Some.i ≡ position (is_entry c.args.entry) c.self.inside.records.items = c.in-Some.ensures in
    set_first (is_entry c.args.entry) (with_reference c.args.reference) c.self.inside.records.items c.in-Some.i c.index_mut.result.now c.attach.new.self found
    c.index_mut.ensures.value c.attach.ensures
    ∙ ap (update_first (is_entry c.args.entry) (with_reference c.args.reference)) c.self.view_is

pub returns-in-None : goal.returns-in-None
returns-in-None c =
    let none : None ≡ position (is_entry c.args.entry) c.args.self.now = rw (c.self.view_is) at c.in-None.ensures in
    update_none (is_entry c.args.entry) (with_reference c.args.reference) c.args.self.now none
