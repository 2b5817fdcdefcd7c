use Rattle.cases.proofs.TicketLemmas.{held_park, runs_read, taken_of}
use Rattle.cases.proofs.desk.Desk.park.Goals as goal

pub park-requires : goal.park-requires
park-requires c =
    let taken = taken_of c.args.self.now c.self.inside.book c.self.inside.tickets.items c.remove-ticket.new.self.items c.args.at c.remove-ticket.result
    c.self.view_is c.self.invariant c.requires.within c.remove-ticket.ensures.value c.remove-ticket.ensures.items in
    record { own = taken.holds }

pub invariant_of-self : goal.invariant_of-self
invariant_of-self c =
    let taken = taken_of c.args.self.now c.self.inside.book c.self.inside.tickets.items c.remove-ticket.new.self.items c.args.at c.remove-ticket.result
    c.self.view_is c.self.invariant c.requires.within c.remove-ticket.ensures.value c.remove-ticket.ensures.items in
    held_park c.self.inside.book c.park.new.book c.remove-ticket.result c.args.why c.remove-ticket.new.self.items (runs_read _ _ _ _ c.setup.ensures c.history.ensures.value c.runs_follow.ensures) taken.apart taken.held c.park.ensures.entered
