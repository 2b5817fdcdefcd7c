use Rattle.std.proofs.Common.{None, refl, sym, ap, ◌∙◌, ◌++◌, ◌∷◌, ◌+◌, [], length, length-append, option_to_list, arith}
use Rattle.ph_items.specs.declared.orders.Order.{Order}
use Rattle.ph_rows.specs.Weights.{rows_weight}
use Rattle.ph_book.specs.declared.acts.Deed.TheVariants as deed
use Rattle.ph_book.specs.History.{Effect, outcome_rows, parked_outcome}
use Rattle.ph_book.specs.Replies.{Replies}
use Rattle.ph_book.proofs.HistoryLemmas.{book_is}
use Rattle.ph_book.proofs.KeepLemmas.{park_keeps}
use Rattle.ph_book.proofs.StepLemmas.{park_book, park_is, parked_weight, held_entry, held_live}
use Rattle.ph_book.proofs.book.Book.park.Goals as goal

pub one_less-live-requires : goal.one_less-live-requires
one_less-live-requires c = held_live _ _ _ _ _ _ _ _ _ c.args.caller c.args.ticket c.self.view_is c.self.invariant.0 c.requires.own

pub park-requires : goal.park-requires
park-requires c = record { live = held_entry _ _ _ _ _ _ _ _ _ c.args.caller c.args.ticket c.self.view_is c.self.invariant.0 c.requires.own }

pub invariant_of-self : goal.invariant_of-self
invariant_of-self c =
    let store = c.self.inside.store in
    let room = c.self.invariant.1 in
    let place = length c.self.inside.entries.items + 1 in
    let row = option_to_list c.parked_row-row.result in
    let made = ap (λ (o : Order). outcome_rows None (parked_outcome store.rows store.time place o.reference)) (sym c.order.ensures) ∙ sym (c.parked_row-row.ensures place) in
    let parked = parked_weight store.rows store.time place c.args.ticket.order.reference in
    let weighs = sym (ap rows_weight made) ∙ parked.0 in
    let size = ap length made in
    let few = parked.1 in
    let entries = c.push_reserved.ensures.items
    ∙ ap (λ run. c.self.inside.entries.items ++ record { caller = c.args.caller; deed = deed.Park run c.args.why } ∷ []) c.run-run.ensures in
    let count = ap length c.push_reserved.ensures.items ∙ length-append c.self.inside.entries.items _ in
    let fewer = c.one_less-live.ensures in
    let replies = room.for_replies in
    let rows = room.for_rows in
    let places = room.for_entries in
    let weight = room.for_weight in (
      book_is _ _ _ _ _ _ _ _ _ _ _ _ _ _
          (park_book _ _ _ _ _ _ _ _ _ c.one_less-live.result place c.args.caller c.args.ticket c.args.why row _ c.self.view_is c.self.invariant.0
          c.requires.own c.requires.caller refl made fewer
          (park_keeps _ _ _ _ _ _ _ _ _ c.args.caller c.args.ticket c.args.why c.self.view_is c.self.invariant.0 c.requires.own c.requires.caller) c.self.invariant.0.statuses)
          entries c.push_row.ensures.rows c.push_row.ensures.time (omega (arith, weighs, size, c.row_weight.ensures)) c.park.ensures.after refl,
      record {
        for_entries = omega (arith, count, places, fewer, c.push_reserved.ensures.capacity);
        for_rows = omega (arith, rows, fewer, c.push_row.ensures.room);
        for_replies = omega (arith, fewer, replies, c.take_spare.ensures);
        for_weight = omega (arith, weight, fewer, few, size, c.row_weight.ensures);
      },
    )

pub returns-clause-said : goal.returns-clause-said
returns-clause-said c =
    ap (λ (effect : Effect). effect.said) (park_is _ _ _ _ _ _ _ _ _ _ c.args.caller c.args.ticket c.args.why c.self.view_is c.self.invariant.0 c.requires.own refl)
    ∙ ap Replies (sym c.reply.ensures)
