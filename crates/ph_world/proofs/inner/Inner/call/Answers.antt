use Rattle.std.proofs.Common.{◌∙◌}
use Rattle.ph_book.specs.Entries.{call_entry}
use Rattle.ph_world.proofs.CodeLemmas.{entered_reply}
use Rattle.ph_world.proofs.inner.Inner.call.Goals as goal

pub returns-in-Ok-apply-clause-reply : goal.returns-in-Ok-apply-clause-reply
returns-in-Ok-apply-clause-reply c =
    c.keep.ensures.reply
    ∙ entered_reply c.args.self.now c.self.inside.book c.apply.new.self c.self.inside.tickets.items
    c.self.inside.decisions.items c.self.inside.asks.items (call_entry c.args.caller c.in-Ok.raw) c.in-Ok-apply.answer c.self.view_is
    c.in-Ok-apply.ensures.answer c.in-Ok-apply.ensures.entry
