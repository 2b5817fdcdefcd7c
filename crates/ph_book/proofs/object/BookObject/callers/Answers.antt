use Rattle.std.proofs.Common.{◌^◌, sym, ap, ◌∙◌, subst}
use Rattle.ph_lock.specs.Histories.{AllBelow}
use Rattle.ph_book.specs.Callers.{caller_of, top_of}
use Rattle.ph_book.proofs.CallerLemmas.{below_top, legal_small}
use Rattle.ph_book.proofs.object.BookObject.callers.Goals as goal

pub top-requires : goal.top-requires
top-requires c = subst (AllBelow caller_of (2 ^ 62)) (sym c.history.ensures.value) (legal_small c.args.self.now.setup c.args.self.now.history c.history.ensures.legal)

pub returns-clause-above : goal.returns-clause-above
returns-clause-above c = below_top c.top.result c.args.self.now.history (c.top.ensures ∙ ap top_of c.history.ensures.value)
