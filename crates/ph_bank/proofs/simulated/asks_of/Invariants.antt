use Rattle.std.proofs.Common.{◌≡◌, drop}
use Rattle.ph_bank.specs.Simulation.{count_of}
use Rattle.ph_bank.proofs.simulated.asks_of.Given as goal

abbrev pub invariant-loop-remembered : goal.invariant-loop-remembered
invariant-loop-remembered l = count_of (drop l.remembered-index l.memory) l.reference ≡ count_of l.memory l.reference
