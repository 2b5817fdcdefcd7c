use Rattle.std.proofs.Common.{refl, ap, ◌∙◌, ◌++◌}
use Rattle.ph_book.specs.Entries.{resume_entry}
use Rattle.ph_world.specs.Flights.{tickets_in}
use Rattle.ph_world.proofs.CodeLemmas.{entered_is, entered_reply}
use Rattle.ph_world.proofs.inner.Inner.resume.Goals as goal

pub returns-in-Ok-clause-after : goal.returns-in-Ok-clause-after
returns-in-Ok-clause-after c =
    entered_is c.args.self.now c.self.inside.book c.apply.new.self c.self.inside.tickets.items c.keep.new.tickets.items
    c.self.inside.decisions.items c.self.inside.asks.items (resume_entry c.args.caller) c.in-Ok.answer c.self.view_is
    c.in-Ok.ensures.answer c.in-Ok.ensures.entry c.in-Ok.ensures.room refl
    (c.keep.ensures.tickets ∙ ap (λ tickets. tickets ++ tickets_in c.in-Ok.answer) c.reserve.ensures.items)

pub returns-in-Ok-clause-reply : goal.returns-in-Ok-clause-reply
returns-in-Ok-clause-reply c =
    c.keep.ensures.reply
    ∙ entered_reply c.args.self.now c.self.inside.book c.apply.new.self c.self.inside.tickets.items
    c.self.inside.decisions.items c.self.inside.asks.items (resume_entry c.args.caller) c.in-Ok.answer c.self.view_is
    c.in-Ok.ensures.answer c.in-Ok.ensures.entry
