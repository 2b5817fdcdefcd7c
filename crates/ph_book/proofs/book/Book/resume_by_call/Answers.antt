use Rattle.std.proofs.Common.{sym, ap, ◌∙◌, ◌+◌}
use Rattle.ph_book.specs.Legal.{raw_weight}
use Rattle.ph_book.proofs.KeepLemmas.{weight_here}
use Rattle.ph_book.proofs.book.Book.resume_by_call.Goals as goal

pub take_up-requires-clause-weight : goal.take_up-requires-clause-weight
take_up-requires-clause-weight c =
    c.in-Some.ensures.1 ∙ ap (λ n. n + raw_weight c.args.raw) (sym (weight_here _ _ _ _ _ _ _ _ _ c.self.view_is c.self.invariant.0))
