use Rattle.std.proofs.Common.{sym, subst}
use Rattle.ph_book.specs.Hosts.{Answers}
use Rattle.ph_book.specs.Plain.{itself_all}
use Rattle.ph_book.proofs.object.BookHosted.part.Goals as goal

pub returns-clause-answer : goal.returns-clause-answer
returns-clause-answer c = λ b h e answers. subst (λ history. Answers b history e c.args.answer) (sym (itself_all h)) answers
