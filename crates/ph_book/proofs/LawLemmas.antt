-- The laws of every legal history, from what stands.
use Rattle.std.proofs.Common.{◌≡◌, ℕ, ◌+◌, ◌-◌, ◌^◌, ◌<◌, ◌++◌, List, length, drop, sym, ap, ◌∙◌, length-append, arith}
use Rattle.std.proofs.lemmas.List.{drop_at}
use Rattle.ph_base.specs.declared.ids.Kind.{Kind}
use Rattle.ph_base.specs.Ids.{prefix_of}
use Rattle.ph_base.specs.Numbers.{decimal, padded}
use Rattle.ph_base.proofs.DecimalLemmas.{decimal_padded, length-padded}
use Rattle.ph_items.specs.Kinds.{kind_of}
use Rattle.ph_rows.specs.Views.{ViewState}
use Rattle.ph_rows.proofs.RowLemmas.{row_at_within}
use Rattle.ph_facts.specs.Order.{IsInOrder}
use Rattle.ph_views.specs.Values.{printed_id}
use Rattle.ph_book.specs.declared.setup.Setup.{Setup}
use Rattle.ph_book.specs.declared.acts.Entry.{Entry}
use Rattle.ph_book.specs.History.{rows_of, view_of}
use Rattle.ph_book.specs.Legal.{IsLegal}
use Rattle.ph_book.specs.Laws.{id_of, HaveDifferentIds}
use Rattle.ph_book.proofs.StandLemmas.{history_sound}

-- a number of sixteen digits is that of its printed id
number_of_text : List ℕ → ℕ
number_of_text text = decimal (drop (length text - 16) text)

printed_number : (kind : Kind) (number : ℕ) → number < 10 ^ 16 → number_of_text (printed_id kind number) ≡ number
unfolding printed_id number_of_text
printed_number kind number small =
    let n : length (prefix_of kind ++ padded 16 number) ≡ length (prefix_of kind) + 16 =
    length-append (prefix_of kind) (padded 16 number) ∙ ap (λ k. length (prefix_of kind) + k) (length-padded 16 number) in
    let back : drop (length (prefix_of kind ++ padded 16 number) - 16) (prefix_of kind ++ padded 16 number) ≡ padded 16 number =
    drop_at (prefix_of kind) (padded 16 number) (length (prefix_of kind ++ padded 16 number) - 16) (omega (arith, n)) in
    ap decimal back ∙ decimal_padded 16 number small

-- rows that are numbered by their positions, and few, have different ids where they are first versions
ids_in_order : (state : ViewState) → IsInOrder state → HaveDifferentIds state.rows
ids_in_order state order p q first second at_p at_q new_first new_second same =
    let place_first : first.object ≡ p = new_first ∙ order.placed p first at_p in
    let place_second : second.object ≡ q = new_second ∙ order.placed q second at_q in
    let few = order.few in
    let within_first = row_at_within p state.rows first at_p in
    let within_second = row_at_within q state.rows second at_q in
    let number_first : number_of_text (id_of first) ≡ first.object =
    printed_number (kind_of first.item) first.object (omega (arith, place_first, within_first.1, few)) in
    let number_second : number_of_text (id_of second) ≡ second.object =
    printed_number (kind_of second.item) second.object (omega (arith, place_second, within_second.1, few)) in
    sym place_first ∙ sym number_first ∙ ap number_of_text same ∙ number_second ∙ place_second

-- in a legal history, the first versions of different objects have different ids
pub legal_ids : (setup : Setup) (history : List Entry) → setup.entries < 2 ^ 32 → IsLegal setup history → HaveDifferentIds (rows_of setup history)
legal_ids setup history small legal = ids_in_order (view_of setup history) (history_sound setup history small legal).order
