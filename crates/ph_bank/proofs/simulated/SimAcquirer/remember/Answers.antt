use Rattle.std.proofs.Common.{List, ap}
use Rattle.ph_bank.specs.declared.simulated.Remembered.{Remembered}
use Rattle.ph_bank.specs.Simulation.{Simulated}
use Rattle.ph_bank.proofs.SimulationLemmas.{remember_again, remember_oldest}
use Rattle.ph_bank.proofs.simulated.SimAcquirer.remember.Goals as goal

pub returns-in-Some : goal.returns-in-Some
returns-in-Some c =
    let count = rw (← c.self.view_is) at c.requires.asks in
    rw (← c.self.view_is)
    (ap (λ (memory : List Remembered). let s : Simulated = record { memory = memory; faults = c.self.inside.faults } in s)
    (remember_again c.self.inside.memory c.self.inside.len c.in-Some.at c.args.reference c.args.asks c.saturating_add-asks.result
    c.in-Some.ensures count c.saturating_add-asks.ensures))

pub returns-in-None-2 : goal.returns-in-None-2
returns-in-None-2 c =
    rw (← c.self.view_is, c.rotate_left.ensures.after)
    (ap (λ (memory : List Remembered). let s : Simulated = record { memory = memory; faults = c.self.inside.faults } in s)
    (remember_oldest c.self.inside.memory c.self.inside.len c.args.reference c.self.invariant.1 c.self.invariant.0 c.if-self-lt32.false c.in-None.ensures))
