use Rattle.std.proofs.Common.{refl, sym, ap, ◌∙◌, ◌++◌, ◌∷◌, ◌+◌, max, [], length, length-append, arith}
use Rattle.std.proofs.lemmas.List.{append-nil}
use Rattle.ph_book.specs.declared.acts.Deed.TheVariants as deed
use Rattle.ph_book.specs.Entries.{tick_entry}
use Rattle.ph_book.proofs.HistoryLemmas.{book_is, full_is, has_room, no_room}
use Rattle.ph_book.proofs.KeepLemmas.{tick_keeps}
use Rattle.ph_book.proofs.StepLemmas.{tick_book, tick_said}
use Rattle.ph_book.proofs.book.Book.tick.Goals as goal

pub returns-then-has_no_place-clause-full : goal.returns-then-has_no_place-clause-full
returns-then-has_no_place-clause-full c =
    let used = ap (λ n. n + c.self.inside.live) (c.len.ensures ∙ c.self.inside.entries.ok.0) in
    let test = full_is _ _ _ _ _ _ _ _ _ _ (deed.Tick c.args.moment) _ c.self.view_is c.self.invariant.0 used c.has_no_place.ensures in
    no_room _ _ test c.if-has_no_place.true

pub returns-in-Err-clause-full : goal.returns-in-Err-clause-full
returns-in-Err-clause-full c =
    let used = ap (λ n. n + c.self.inside.live) (c.len.ensures ∙ c.self.inside.entries.ok.0) in
    let test = full_is _ _ _ _ _ _ _ _ _ _ (deed.Tick c.args.moment) _ c.self.view_is c.self.invariant.0 used c.has_no_place.ensures in
    has_room _ (test ∙ c.if-has_no_place.false)

pub returns-clause-room : goal.returns-clause-room
returns-clause-room c =
    let used = ap (λ n. n + c.self.inside.live) (c.len.ensures ∙ c.self.inside.entries.ok.0) in
    let test = full_is _ _ _ _ _ _ _ _ _ _ (deed.Tick c.args.moment) _ c.self.view_is c.self.invariant.0 used c.has_no_place.ensures in
    test ∙ c.if-has_no_place.false

pub returns-clause-said : goal.returns-clause-said
returns-clause-said c = tick_said c.args.self.now.setup c.args.self.now.history c.args.caller c.args.moment

pub invariant_of-self-2 : goal.invariant_of-self-2
invariant_of-self-2 c =
    let book = c.self.invariant.0 in
    let room = c.self.invariant.1 in
    let used = ap (λ n. n + c.self.inside.live) (c.len.ensures ∙ c.self.inside.entries.ok.0) in
    let test = full_is _ _ _ _ _ _ _ _ _ _ (deed.Tick c.args.moment) _ c.self.view_is book used c.has_no_place.ensures in
    let entries = c.push_reserved.ensures.items ∙ ap (λ history. history ++ tick_entry c.args.caller c.args.moment ∷ []) c.in-Ok.ensures.entries in
    let count = ap length c.push_reserved.ensures.items ∙ length-append c.take_room.new.entries.items (tick_entry c.args.caller c.args.moment ∷ []) in
    let time = ap (λ now. max now c.args.moment) (c.time.ensures ∙ c.in-Ok.ensures.time) in (
      book_is _ _ _ _ _ _ _ _ _ _ _ _ _ _
          (tick_book _ _ _ _ _ _ _ _ _ c.args.caller c.args.moment _ c.self.view_is book c.requires.caller c.requires.clock (test ∙ c.if-has_no_place.false)
          (tick_keeps _ _ _ _ _ _ _ _ _ c.args.caller c.args.moment c.self.view_is book c.requires.caller c.requires.clock (test ∙ c.if-has_no_place.false)) book.statuses)
          entries (c.advance.ensures.rows ∙ c.in-Ok.ensures.rows ∙ sym (append-nil c.self.inside.store.rows))
          (c.advance.ensures.time ∙ c.later.ensures ∙ time) (omega arith) refl refl,
      record {
        for_entries = omega (arith, count, c.in-Ok.ensures.entries_room, c.push_reserved.ensures.capacity);
        for_rows = omega (arith, c.in-Ok.ensures.rows_room, c.advance.ensures.room);
        for_replies = room.for_replies;
        for_weight = room.for_weight;
      },
    )
