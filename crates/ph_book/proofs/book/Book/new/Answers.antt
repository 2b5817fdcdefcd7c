use Rattle.std.proofs.Common.{[], refl, ap, length, arith}
use Rattle.ph_book.proofs.HistoryLemmas.{book_is, book_new}
use Rattle.ph_book.proofs.book.Book.new.Goals as goal

pub invariant_of-result : goal.invariant_of-result
invariant_of-result c =
    let none = ap length c.new.ensures.items in (
      book_is c.args.setup [] _ _ _ _ _ 256 256 _ _ _ _ 0 (book_new c.args.setup c.requires.opened c.few_entries.ensures)
          c.new.ensures.items c.in_ok-store.ensures.rows c.in_ok-store.ensures.time refl c.new-2.ensures c.new-3.ensures,
      record { for_entries = omega (arith, none); for_rows = omega arith; for_replies = omega arith; for_weight = omega arith },
    )
