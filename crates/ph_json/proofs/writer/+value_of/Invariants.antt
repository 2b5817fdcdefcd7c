use Rattle.std.proofs.Common.{◌≡◌, false, map, take}
use Rattle.serde_json.specs.View.{view, items_view, members_view}
use Rattle.serde_json.specs.Written.{compact_text, items_have_float, members_have_float}
use Rattle.ph_json.specs.Text.{text_of, by_key, member_of}
use Rattle.ph_json.specs.Written.{written_members}
use Rattle.ph_json.proofs.writer.+value_of.Given as goal

abbrev pub invariant-values_of-loop-doc : goal.invariant-values_of-loop-doc
invariant-values_of-loop-doc l =
    (map (λ value. compact_text (view value)) l.values.items ≡ map text_of (take l.doc-index l.docs))
    × (items_have_float (items_view l.values.items) ≡ false)

abbrev pub invariant-map_of-loop-member : goal.invariant-map_of-loop-member
invariant-map_of-loop-member l =
    (written_members (members_view l.values.entries) ≡ by_key (map member_of (take l.member-index l.members)))
    × (members_have_float (members_view l.values.entries) ≡ false)
