use Rattle.std.proofs.Common.{refl, sym, subst}
use Rattle.ph_book.specs.Entries.{tick_entry}
use Rattle.ph_book.specs.State.{BookState}
use Rattle.cases.specs.Desks.{AreHeld}
use Rattle.cases.proofs.TicketLemmas.{held_entry, runs_read}
use Rattle.cases.proofs.desk.Desk.tick.Goals as goal
use Rattle.cases.proofs.desk.Desk.tick.Goals.{in-Ok+in-Done, in-Err+in-Tick}

pub invariant_of-self : goal.invariant_of-self
invariant_of-self c =
    elim c.match-apply.branch [
      | in-Ok+in-Done w ↦ held_entry c.self.inside.book c.apply.new.self (tick_entry 0 c.args.moment) c.self.inside.tickets.items (runs_read _ _ _ _ c.setup.ensures c.history.ensures.value c.runs_follow.ensures) refl c.self.invariant w.in-Ok.ensures.entry
      | in-Err+in-Tick w ↦ subst (λ (book : BookState). AreHeld book.setup book.history c.self.inside.tickets.items) (sym w.in-Err.ensures.unchanged.1) c.self.invariant
    ]
