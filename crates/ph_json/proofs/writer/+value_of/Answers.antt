use Rattle.std.proofs.Common.{◌≡◌, ◌∷◌, [], map, take, false, sym, ap, subst, ◌∙◌}
use Rattle.std.proofs.lemmas.List.{map_more, map-append}
use Rattle.serde_json.specs.View.{items_of, members_view, view}
use Rattle.serde_json.specs.Written.{compact_text, items_have_float, members_have_float}
use Rattle.ph_json.specs.Text.{text_of, member_of, by_key}
use Rattle.ph_json.specs.Written.{written_members}
use Rattle.ph_json.proofs.TextEquations.{text_of-List, text_of-Object}
use Rattle.ph_json.proofs.TextLemmas.{list_text, sorted_text, array_text, map_text, written_members-more, members_have_float-put, items_have_float-more}
use Rattle.ph_json.proofs.writer.+value_of.Goals as goal

pub value_of-returns-in_ok-values_of-in-List-clause-text :
    goal.value_of-returns-in_ok-values_of-in-List-clause-text
value_of-returns-in_ok-values_of-in-List-clause-text t c =
    let texts = rw c.as_slice-in-List.ensures at c.in_ok-values_of-in-List.ensures.texts in
    rw c.in-List.is (array_text c.in_ok-values_of-in-List.field-0 ∙ ap list_text texts ∙ sym (text_of-List _))

pub value_of-returns-in_ok-map_of-in-Object-clause-text :
    goal.value_of-returns-in_ok-map_of-in-Object-clause-text
value_of-returns-in_ok-map_of-in-Object-clause-text t c =
    let texts = rw c.as_slice-in-Object.ensures at c.in_ok-map_of-in-Object.ensures.texts in
    rw c.in-Object.is (map_text c.in_ok-map_of-in-Object.field-0 ∙ ap sorted_text texts ∙ sym (text_of-Object _))

pub values_of-loop-doc-preserved : goal.values_of-loop-doc-preserved
values_of-loop-doc-preserved t c =
    let l = c.loop-doc in
    let grown = map_more text_of c.args.docs.now l.doc-index c.doc-item.result c.loop-doc-test.true in
    let entry = rw (sym c.doc-item.is) at grown in
    let value = c.in_ok-value_of.field-0 in
    let texts = ap (map (λ v. compact_text (view v))) c.in_ok-push.ensures.items ∙ map-append (λ v. compact_text (view v)) l.values.items (value ∷ []) in
    let shown = ap (map view) c.in_ok-push.ensures.items ∙ map-append view l.values.items (value ∷ []) in (
      rw (c.in_ok-value_of.ensures.text, l.invariant.0) at texts ∙ sym entry,
      subst (λ ds. items_have_float (items_of ds) ≡ false) (sym shown)
          (items_have_float-more (map view l.values.items) (view value) l.invariant.1 c.in_ok-value_of.ensures.whole),
    )

pub map_of-loop-member-preserved : goal.map_of-loop-member-preserved
map_of-loop-member-preserved t c =
    let l = c.loop-member in
    let key = c.as_str.ensures.value ∙ rw c.as_slice.ensures at c.in_ok-key.ensures.lossy in
    let grown = map_more member_of c.args.members.now l.member-index c.member-item.result c.loop-member-test.true in
    let entry = rw (sym c.member-item.is) at grown in
    let said = rw key at c.in_ok-put.ensures.ok in (
      ap written_members said
          ∙ written_members-more (map member_of (take l.member-index c.args.members.now)) _ _ _ _ c.in_ok-value.ensures.text l.invariant.0
          ∙ ap by_key (sym entry),
      subst (λ ms. members_have_float ms ≡ false) (sym said)
          (members_have_float-put _ (view c.in_ok-value.value) (members_view l.values.entries) c.in_ok-value.ensures.whole l.invariant.1),
    )
