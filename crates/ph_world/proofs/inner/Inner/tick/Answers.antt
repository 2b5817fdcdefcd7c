use Rattle.std.proofs.Common.{sym, ap, ◌∙◌}
use Rattle.ph_book.specs.Entries.{tick_entry}
use Rattle.ph_world.specs.Flights.{given_in}
use Rattle.ph_world.proofs.CodeLemmas.{entered_reply}
use Rattle.ph_world.proofs.inner.Inner.tick.Goals as goal
use Rattle.ph_world.proofs.inner.Inner.tick.Goals.{in-Ok+in-Done, in-Err+in-Tick}

pub returns-clause-reply : goal.returns-clause-reply
returns-clause-reply c =
    elim c.match-apply.branch [
      | in-Ok+in-Done w ↦ rw w.result-is (sym (ap given_in w.in-Done.is)
          ∙ entered_reply c.args.self.now c.self.inside.book c.apply.new.self c.self.inside.tickets.items
          c.self.inside.decisions.items c.self.inside.asks.items (tick_entry 0 c.args.moment) w.in-Ok.answer c.self.view_is
          w.in-Ok.ensures.answer w.in-Ok.ensures.entry)
      | in-Err+in-Tick w ↦ rw w.result-is tt
    ]
