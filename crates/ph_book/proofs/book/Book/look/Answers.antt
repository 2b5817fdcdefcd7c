use Rattle.std.proofs.Common.{ap, ◌∙◌, is_some}
use Rattle.ph_book.proofs.LookLemmas.{book_sees}
use Rattle.ph_book.proofs.book.Book.look.Goals as goal

pub returns : goal.returns
returns c =
    book_sees _ _ _ _ _ _ _ _ _ c.args.query.now c.is_some.result c.self.view_is c.self.invariant.0 (c.is_some.ensures ∙ ap is_some c.parked.ensures.first)
