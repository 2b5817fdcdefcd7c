use Rattle.std.proofs.Common.{refl, sym, ap, ◌∙◌, ◌++◌, ◌∷◌, ◌+◌, [], length, length-append, arith}
use Rattle.std.specs.List.{find}
use Rattle.ph_idem.specs.Records.{is_attached}
use Rattle.ph_items.specs.declared.orders.Order.{Order}
use Rattle.ph_rows.specs.Weights.{rows_weight}
use Rattle.ph_book.specs.declared.acts.Deed.TheVariants as deed
use Rattle.ph_book.specs.Called.{record_key, saving_of}
use Rattle.ph_book.specs.History.{Effect, outcome_rows, ruled_outcome}
use Rattle.ph_book.specs.Replies.{Replies, ruling_reply}
use Rattle.ph_book.proofs.HistoryLemmas.{book_is}
use Rattle.ph_book.proofs.KeepLemmas.{finish_keeps, known_key}
use Rattle.ph_book.proofs.ReplyLemmas.{finish_ruled}
use Rattle.ph_book.proofs.StepLemmas.{finish_book, finish_is, held_live}
use Rattle.ph_book.proofs.book.Book.finish.Goals as goal

pub one_less-live-requires : goal.one_less-live-requires
one_less-live-requires c = held_live _ _ _ _ _ _ _ _ _ c.args.caller c.args.ticket c.self.view_is c.self.invariant.0 c.requires.own

pub invariant_of-self-2 : goal.invariant_of-self-2
invariant_of-self-2 c =
    let store = c.self.inside.store in
    let records = c.self.inside.records in
    let room = c.self.invariant.1 in
    let reference = c.args.ticket.order.reference in
    let place = ap (λ n. n + 1) (c.len.ensures ∙ c.self.inside.entries.ok.0) in
    let attempt = ap (λ (o : Order). o.reference) c.order.ensures in
    let key = known_key _ _ _ _ _ _ _ _ reference c.self.invariant.0 in
    let made = ap (λ k. outcome_rows k (ruled_outcome store.rows store.time (c.len.result + 1) reference c.args.ruling)) key
    ∙ ap (λ n. outcome_rows (record_key (find (is_attached n) records)) (ruled_outcome store.rows store.time (c.len.result + 1) n c.args.ruling)) (sym attempt)
    ∙ sym c.in-Ok.ensures.rows in
    let said =
    ap (λ (effect : Effect). effect.said) (finish_is _ _ _ _ _ _ _ _ _ _ c.args.caller c.args.ticket c.args.ruling c.self.view_is c.self.invariant.0 c.requires.own place)
    ∙ ap Replies
    (ap (λ n. ruling_reply store.time store.rows c.args.ruling (ruled_outcome store.rows store.time (c.len.result + 1) n c.args.ruling)) (sym attempt)
    ∙ sym c.in-Ok.ensures.reply) in
    let saving = c.in-Ok.ensures.saving ∙ ap (λ n. saving_of (find (is_attached n) records) c.in-Ok.ending.reply) attempt in
    let keeps = finish_keeps _ _ _ _ _ _ _ _ _ _ c.args.caller c.args.ticket c.args.ruling c.in-Ok.ending.reply c.in-Ok.ending.saving _ c.self.view_is c.self.invariant.0 c.requires.own
    c.requires.caller place said saving c.save.ensures in
    let entries = c.push_reserved.ensures.items
    ∙ ap (λ history. history ++ record { caller = c.args.caller; deed = deed.Finish c.run-run.result c.args.ruling } ∷ []) c.in-Ok-take_room.ensures.entries
    ∙ ap (λ run. c.self.inside.entries.items ++ record { caller = c.args.caller; deed = deed.Finish run c.args.ruling } ∷ []) c.run-run.ensures in
    let first = c.in-Some.ensures.0 ∙ ap (λ rows. c.self.inside.weight + rows_weight rows) c.as_slice.ensures.value in
    let second = c.in-Some-weight_with_saving.ensures.0 in
    let count = ap length c.push_reserved.ensures.items ∙ length-append c.take_room.new.entries.items _ in
    let fewer = c.one_less-live.ensures in
    let replies = room.for_replies in (
      book_is _ _ _ _ _ _ _ _ _ _ _ _ _ _
          (finish_book _ _ _ _ _ _ _ _ _ c.one_less-live.result _ c.args.caller c.args.ticket c.args.ruling c.in-Ok.ending.rows.items _ _ c.self.view_is c.self.invariant.0
          c.requires.own c.requires.caller place made fewer keeps.saved keeps.kept_is keeps.well)
          entries (c.append_reserved.ensures.rows ∙ ap (λ rows. rows ++ c.in-Ok.ending.rows.items) c.in-Ok-take_room.ensures.rows)
          (c.append_reserved.ensures.time ∙ c.in-Ok-take_room.ensures.time) (omega (arith, first, second)) c.settle.ensures.after refl,
      record {
        for_entries = omega (arith, count, c.in-Ok-take_room.ensures.entries_room, c.push_reserved.ensures.capacity);
        for_rows = omega (arith, c.in-Ok-take_room.ensures.rows_room, c.append_reserved.ensures.room, c.in-Ok.ending.rows.ok.0, c.len-2.ensures);
        for_replies = omega (arith, fewer, replies, c.take_spare-spare.ensures);
        for_weight = c.in-Some-weight_with_saving.ensures.1;
      },
    )

pub returns-clause-said : goal.returns-clause-said
returns-clause-said c =
    let store = c.self.inside.store in
    let place = ap (λ n. n + 1) (c.len.ensures ∙ c.self.inside.entries.ok.0) in
    ap (λ (effect : Effect). effect.said) (finish_is _ _ _ _ _ _ _ _ _ _ c.args.caller c.args.ticket c.args.ruling c.self.view_is c.self.invariant.0 c.requires.own place)
    ∙ ap Replies
    (ap (λ (o : Order). ruling_reply store.time store.rows c.args.ruling (ruled_outcome store.rows store.time (c.len.result + 1) o.reference c.args.ruling)) (sym c.order.ensures)
    ∙ sym c.in-Ok.ensures.reply)

pub returns-clause-ruled : goal.returns-clause-ruled
returns-clause-ruled c =
    let store = c.self.inside.store in
    let place = ap (λ n. n + 1) (c.len.ensures ∙ c.self.inside.entries.ok.0) in
    let said =
    ap (λ (effect : Effect). effect.said) (finish_is _ _ _ _ _ _ _ _ _ _ c.args.caller c.args.ticket c.args.ruling c.self.view_is c.self.invariant.0 c.requires.own place)
    ∙ ap Replies
    (ap (λ (o : Order). ruling_reply store.time store.rows c.args.ruling (ruled_outcome store.rows store.time (c.len.result + 1) o.reference c.args.ruling)) (sym c.order.ensures)
    ∙ sym c.in-Ok.ensures.reply) in
    finish_ruled _ _ _ _ _ _ _ _ _ c.args.caller c.args.ticket c.args.ruling c.in-Ok.ending.reply c.self.view_is c.self.invariant.0 c.requires.own said
