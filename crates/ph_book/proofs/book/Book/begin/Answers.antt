use Rattle.std.proofs.Common.{◌≡◌, refl, sym, ap, ◌∙◌, ◌++◌, ◌∷◌, ◌+◌, [], length, length-append, arith, subst}
use Rattle.ph_attempts.specs.declared.flights.Flight.{Flight}
use Rattle.ph_attempts.specs.Attempts.{Begins, after}
use Rattle.ph_idem.specs.Records.{taken_back}
use Rattle.ph_rows.specs.Weights.{rows_weight}
use Rattle.ph_book.specs.Entries.{call_entry}
use Rattle.ph_book.specs.Legal.{raw_weight}
use Rattle.ph_book.specs.State.{BookState}
use Rattle.ph_book.specs.Tickets.{Holds}
use Rattle.ph_book.proofs.HistoryLemmas.{book_is}
use Rattle.ph_book.proofs.KeepLemmas.{begin_keeps, begun_back}
use Rattle.ph_book.proofs.StepLemmas.{begin_book, begun_held, time_now}
use Rattle.ph_book.proofs.book.Book.begin.Goals as goal

pub invariant_of-self-2 : goal.invariant_of-self-2
invariant_of-self-2 c =
    let run = ap (λ n. n + 1) (c.len.ensures ∙ c.self.inside.entries.ok.0 ∙ ap (λ (x : BookState). length x.history) c.self.view_is) in
    let place = ap (λ n. n + 1) (c.len.ensures ∙ c.self.inside.entries.ok.0) in
    let flight : Flight = record { caller = c.args.caller; run = length c.args.self.now.history + 1; order = c.args.order } in
    let ticket : c.in-Ok-begin.ticket ≡ flight = c.in-Ok-begin.ensures.ticket ∙ ap (λ n. record { caller = c.args.caller; run = n; order = c.args.order }) run in
    let keeps = begin_keeps _ _ _ _ _ _ _ _ _ _ _ c.args.caller c.args.raw c.args.order flight c.args.asked _ c.self.view_is c.self.invariant.0 c.requires.caller c.requires.room c.requires.step
    c.requires.said c.requires.asked place (c.time.ensures ∙ c.in-Ok.ensures.time) c.in-Ok-open.ensures.opened in
    let entries = c.push_reserved.ensures.items ∙ ap (λ history. history ++ call_entry c.args.caller c.args.raw ∷ []) c.in-Ok.ensures.entries in
    let weight = c.in-Some.ensures.0 ∙ ap (λ rows. (c.self.inside.weight + raw_weight c.args.raw) + rows_weight rows) c.as_slice.ensures.value in
    let count = ap length c.push_reserved.ensures.items ∙ length-append c.take_room.new.entries.items (call_entry c.args.caller c.args.raw ∷ []) in
    let spares = c.self.invariant.1.for_replies in (
      book_is _ _ _ _ _ _ _ _ _ _ _ _ _ _
          (begin_book _ _ _ _ _ _ _ _ _ c.args.caller c.args.raw c.args.rows.items flight 0 _ c.self.view_is c.self.invariant.0 c.requires.caller c.requires.room c.requires.rows c.requires.step
          (c.requires.now ∙ time_now _ _ _ _ _ _ _ _ _ c.self.view_is c.self.invariant.0) keeps.saved keeps.kept_is keeps.well)
          entries (c.append_reserved.ensures.rows ∙ ap (λ rows. rows ++ c.args.rows.items) c.in-Ok.ensures.rows)
          (c.append_reserved.ensures.time ∙ c.in-Ok.ensures.time) (omega (arith, weight))
          (c.in-Ok-begin.ensures.after ∙ ap (λ (f : Flight). after c.self.inside.attempts (Begins f)) ticket) refl,
      record {
        for_entries = omega (arith, count, c.in-Ok.ensures.entries_room, c.push_reserved.ensures.capacity);
        for_rows = omega (arith, c.in-Ok.ensures.rows_room, c.append_reserved.ensures.room, c.args.rows.ok.0, c.len-2.ensures);
        for_replies = omega (arith, c.in-Ok-add_spare.ensures.ok, spares);
        for_weight = c.in-Some.ensures.1;
      },
    )

pub invariant_of-self-in-Err-begin : goal.invariant_of-self-in-Err-begin
invariant_of-self-in-Err-begin c =
    let book = c.self.invariant.0 in
    let room = c.self.invariant.1 in
    let place = ap (λ n. n + 1) (c.len.ensures ∙ c.self.inside.entries.ok.0) in
    let back = c.take_back.ensures ∙ ap (taken_back (c.len.result + 1)) c.in-Ok-open.ensures.opened ∙ begun_back _ _ _ _ _ _ _ _ _ _ _ c.args.asked book place in
    let same = ap length c.in-Ok.ensures.entries in
    let entries = room.for_entries in
    let rows = room.for_rows in
    let replies = room.for_replies in (
      book_is _ _ _ _ _ _ _ _ _ _ _ _ _ _ book c.in-Ok.ensures.entries c.in-Ok.ensures.rows c.in-Ok.ensures.time refl c.in-Err-begin.ensures.refused back,
      record {
        for_entries = omega (arith, same, entries, c.in-Ok.ensures.entries_kept);
        for_rows = omega (arith, rows, c.in-Ok.ensures.rows_kept);
        for_replies = omega (arith, replies, c.in-Ok-add_spare.ensures.ok);
        for_weight = room.for_weight;
      },
    )

pub returns-clause-live : goal.returns-clause-live
returns-clause-live c =
    let run = ap (λ n. n + 1) (c.len.ensures ∙ c.self.inside.entries.ok.0 ∙ ap (λ (x : BookState). length x.history) c.self.view_is) in
    let flight : Flight = record { caller = c.args.caller; run = length c.args.self.now.history + 1; order = c.args.order } in
    let ticket : c.in-Ok-begin.ticket ≡ flight = c.in-Ok-begin.ensures.ticket ∙ ap (λ n. record { caller = c.args.caller; run = n; order = c.args.order }) run in
    let entries = c.push_reserved.ensures.items ∙ ap (λ history. history ++ call_entry c.args.caller c.args.raw ∷ []) c.in-Ok.ensures.entries in
    let new : BookState = record { setup = c.self.inside.setup; history = c.push_reserved.new.self.items } in
    subst (λ (t : Flight). Holds new.setup new.history c.args.caller t) (sym ticket)
    (begun_held _ new _ _ (call_entry c.args.caller c.args.raw) flight c.self.view_is
    (ap (λ history. record { setup = c.self.inside.setup; history = history }) entries) c.requires.step)
