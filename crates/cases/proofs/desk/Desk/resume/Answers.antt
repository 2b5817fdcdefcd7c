use Rattle.std.proofs.Common.{◌∷◌, ◌++◌, [], List, refl, sym, ap, ◌∙◌, subst}
use Rattle.ph_book.specs.Answers.{Says}
use Rattle.ph_book.specs.Entries.{resume_entry}
use Rattle.ph_book.specs.Tickets.{HandsOut}
use Rattle.cases.specs.Desks.{AreHeld}
use Rattle.cases.proofs.TicketLemmas.{held_entry, held_more, runs_read, says_run}
use Rattle.cases.proofs.desk.Desk.resume.Goals as goal

pub invariant_of-self-in-Ok-Wait : goal.invariant_of-self-in-Ok-Wait
invariant_of-self-in-Ok-Wait c =
    let is = c.in-Ok-Wait.field-0-is in
    let items = c.push_reserved.ensures.items ∙ ap (λ tickets. tickets ++ c.in-Ok-Wait.ticket ∷ []) c.reserve.ensures.items in
    subst (AreHeld c.apply.new.self.setup c.apply.new.self.history) (sym items)
    (held_more c.self.inside.book c.apply.new.self (resume_entry 0) c.self.inside.tickets.items c.in-Ok-Wait.ticket (runs_read _ _ _ _ c.setup.ensures c.history.ensures.value c.runs_follow.ensures) refl c.self.invariant c.in-Ok-Wait.ensures.entry
    (subst (HandsOut c.apply.new.self.setup c.apply.new.self.history 0) is c.in-Ok-Wait.ensures.live)
    (says_run _ _ _ c.in-Ok-Wait.ticket (subst (Says _ 0 _) is c.in-Ok-Wait.ensures.answer)))

pub invariant_of-self-in-Ok-Done : goal.invariant_of-self-in-Ok-Done
invariant_of-self-in-Ok-Done c =
    subst (AreHeld c.apply.new.self.setup c.apply.new.self.history) (sym c.reserve.ensures.items)
    (held_entry c.self.inside.book c.apply.new.self (resume_entry 0) c.self.inside.tickets.items (runs_read _ _ _ _ c.setup.ensures c.history.ensures.value c.runs_follow.ensures) refl c.self.invariant c.in-Ok-Done.ensures.entry)
