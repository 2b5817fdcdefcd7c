use Rattle.ph_base.specs.declared.acquirer.Why.TheVariants as why_given
use Rattle.cases.proofs.TicketLemmas.{held_finish, held_park, runs_read, taken_of}
use Rattle.cases.proofs.desk.Desk.finish.Goals as goal
use Rattle.cases.proofs.desk.Desk.finish.Goals.{in-Ok, in-Err}

pub finish-requires : goal.finish-requires
finish-requires c =
    let taken = taken_of c.args.self.now c.self.inside.book c.self.inside.tickets.items c.remove-ticket.new.self.items c.args.at c.remove-ticket.result
    c.self.view_is c.self.invariant c.requires.within c.remove-ticket.ensures.value c.remove-ticket.ensures.items in
    record { own = taken.holds }

pub invariant_of-self : goal.invariant_of-self
invariant_of-self c =
    let taken = taken_of c.args.self.now c.self.inside.book c.self.inside.tickets.items c.remove-ticket.new.self.items c.args.at c.remove-ticket.result
    c.self.view_is c.self.invariant c.requires.within c.remove-ticket.ensures.value c.remove-ticket.ensures.items in
    elim c.match-finish.branch [
      | in-Ok w ↦ held_finish c.self.inside.book c.finish.new.book c.remove-ticket.result c.args.ruling c.remove-ticket.new.self.items (runs_read _ _ _ _ c.setup.ensures c.history.ensures.value c.runs_follow.ensures) taken.apart taken.held w.in-Ok.ensures.entered
      | in-Err w ↦ held_park c.self.inside.book c.finish.new.book c.remove-ticket.result why_given.NoMemory c.remove-ticket.new.self.items (runs_read _ _ _ _ c.setup.ensures c.history.ensures.value c.runs_follow.ensures) taken.apart taken.held w.in-Err.ensures.given_up
    ]
